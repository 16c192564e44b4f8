-- What contracts see of a page, whose URL is in the input or stored separately.
use Rattle.text_lines.specs.FirstLine.{line_in, after_line}
use Rattle.saved_pages.specs.PageLists.{PageRead}
use Rattle.saved_pages.specs.declared.known_page.PageText.{PageText}
use Rattle.saved_pages.specs.declared.known_page.PageText.TheVariants.{Written, Made}

-- its URL, and the bytes after its line
abbrev pub page_in : PageText → PageRead
page_in (Written text) = record { url = line_in text.now; following = after_line text.now }
page_in (Made page) = record { url = page.value.url; following = page.value.following.now }

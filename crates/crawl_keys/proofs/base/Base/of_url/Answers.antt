use Rattle.crawl_keys.proofs.Prelude.{◌+◌, ap, length, take, ◌∙◌, prefix_len, without_last_segment, is_other}
use Rattle.crawl_keys.proofs.BaseLemmas.{back_slice, is_base}
use Rattle.crawl_keys.proofs.base.Base.of_url.Goals as goal

pub invariant_of-result : goal.invariant_of-result
invariant_of-result c =
    let text = c.args.url in
    let end = c.host-host.result.end in
    let bytes = c.as_bytes.ensures.value ∙ c.as_str-text.ensures.value in
    let all = c.as_bytes-2.ensures.value ∙ c.as_str-text.ensures.value in
    is_base text _ _ c.host-host.result.start end c.as_str-text.ensures.canonical c.host-host.ensures.spelled
    (ap (λ n. end + n) (c.len_before.ensures.value ∙ ap (prefix_len (is_other 47)) (back_slice text _ end bytes)))
    (ap (λ n. n + 1) (c.folder_len-folder.ensures.value ∙ ap (λ t. length (without_last_segment (take (prefix_len (is_other 63) t) t))) all))

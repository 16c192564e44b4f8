use Rattle.html_links.proofs.Prelude.{◌∙◌, ◌≤◌, ◌==◌, arith, length, map, not, lower, in_unquoted}
use Rattle.html_links.proofs.Jumps.{read_double, read_open_double, read_single, read_open_single, read_missing, read_unquoted, quoted_shorter, shorter}
use Rattle.html_links.proofs.tag.value.Goals as goal

pub returns-in-Some-split_quoted-clause-reads : goal.returns-in-Some-split_quoted-clause-reads
returns-in-Some-split_quoted-clause-reads c =
    read_double (map lower c.args.name.now) c.args.bytes.now c.in-Some.first c.in-Some.more.now c.in-Some-split_quoted.value.now c.in-Some-split_quoted.rest.now c.in-Some.ensures c.in-Quote.ensures c.in-Some-split_quoted.ensures

pub returns-in-Some-split_quoted-clause-leaves : goal.returns-in-Some-split_quoted-clause-leaves
returns-in-Some-split_quoted-clause-leaves c =
    quoted_shorter (λ c. not (c == 34)) c.args.bytes.now c.in-Some.first 34 c.in-Some.more.now c.in-Some-split_quoted.rest.now c.in-Some.ensures c.in-Some-split_quoted.ensures.1

pub returns-in-None-clause-reads : goal.returns-in-None-clause-reads
returns-in-None-clause-reads c =
    read_open_double (map lower c.args.name.now) c.args.bytes.now c.in-Some.first c.in-Some.more.now c.in-Some.ensures c.in-Quote.ensures c.in-None.ensures

pub returns-in-Some-split_quoted-2-clause-reads : goal.returns-in-Some-split_quoted-2-clause-reads
returns-in-Some-split_quoted-2-clause-reads c =
    read_single (map lower c.args.name.now) c.args.bytes.now c.in-Some.first c.in-Some.more.now c.in-Some-split_quoted-2.value.now c.in-Some-split_quoted-2.rest.now c.in-Some.ensures c.in-Apostrophe.ensures c.in-Some-split_quoted-2.ensures

pub returns-in-Some-split_quoted-2-clause-leaves : goal.returns-in-Some-split_quoted-2-clause-leaves
returns-in-Some-split_quoted-2-clause-leaves c =
    quoted_shorter (λ c. not (c == 39)) c.args.bytes.now c.in-Some.first 39 c.in-Some.more.now c.in-Some-split_quoted-2.rest.now c.in-Some.ensures c.in-Some-split_quoted-2.ensures.1

pub returns-in-None-split_quoted-clause-reads : goal.returns-in-None-split_quoted-clause-reads
returns-in-None-split_quoted-clause-reads c =
    read_open_single (map lower c.args.name.now) c.args.bytes.now c.in-Some.first c.in-Some.more.now c.in-Some.ensures c.in-Apostrophe.ensures c.in-None-split_quoted.ensures

pub returns-in-Greater-clause-reads : goal.returns-in-Greater-clause-reads
returns-in-Greater-clause-reads c = read_missing (map lower c.args.name.now) c.args.bytes.now c.in-Some.first c.in-Some.more.now c.in-Some.ensures c.in-Greater.ensures

pub returns-in_default-class_of : goal.returns-in_default-class_of
returns-in_default-class_of c =
    let here = c.in_default-class_of in
    let cut : length c.split_unquoted.result.1.now ≤ length c.args.bytes.now = rw c.split_unquoted.ensures.rest (shorter in_unquoted c.args.bytes.now) in
    record {
      reads = read_unquoted (map lower c.args.name.now) c.args.bytes.now c.in-Some.first c.in-Some.more.now c.split_unquoted.result.0.now c.split_unquoted.result.1.now c.in-Some.ensures c.requires
          (λ e. here.not-Greater (c.class_of.ensures ∙ e)) (λ e. here.not-Quote (c.class_of.ensures ∙ e)) (λ e. here.not-Apostrophe (c.class_of.ensures ∙ e))
          c.split_unquoted.ensures.value c.split_unquoted.ensures.rest;
      leaves = omega (arith, cut);
    }

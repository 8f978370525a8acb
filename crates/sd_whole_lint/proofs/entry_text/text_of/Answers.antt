-- The text of the list of the entry alone says what the entry's text is.
use Rattle.std.proofs.Common.{Some, ap, string_bytes, ◌∙◌}
use Rattle.sd_whole_lint.proofs.Texts.{given, none_given}
use Rattle.sd_whole_lint.proofs.entry_text.text_of.Goals as goal

pub returns-in-Ok-print_whole : goal.returns-in-Ok-print_whole
returns-in-Ok-print_whole c =
    ap Some c.in_ok-from_str-in-Ok-print_whole.ensures.ok
    ∙ given c.args.names c.args.entry.now c.in_ok-copied.field-0 c.in_ok-entries.entries.items c.in-Ok.list
    c.behind_head.result.now (string_bytes c.in-Ok-print_whole.text)
    c.in_ok-copied.ensures c.in_ok-entries.ensures.items c.in-Ok.ensures.list.0 c.in-Ok.ensures.list.1
    c.in-Ok-print_whole.ensures.exact (λ rest is. c.behind_head.ensures rest (c.as_str.ensures.value ∙ is))

pub returns-in-Err-NoText : goal.returns-in-Err-NoText
returns-in-Err-NoText c =
    none_given c.args.names c.args.entry.now c.in_ok-copied.field-0 c.in_ok-entries.entries.items c.in-Ok.list
    c.in-Err-NoText.field-0-0 c.in_ok-copied.ensures c.in_ok-entries.ensures.items c.in-Ok.ensures.list.0
    c.in-Ok.ensures.list.1 (rw c.in-Err-NoText.field-0-is at c.in-Err-NoText.ensures.exact)

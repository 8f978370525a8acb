-- Texts in UTF-8 as units of UTF-16.
use Rattle.std.specs.Prelude.{ℕ, Bool, List, take, drop, Ok, Err, if◌then◌else◌}
use Rattle.std.specs.List.{position_or_len}
use Rattle.std.specs.Str.{is_utf8}
use Rattle.sd_data.specs.Reading.{utf16_of}
use Rattle.sd_text.specs.declared.fault.TextFault.TheVariants.{Syntax}
use Rattle.sd_claim_text.specs.Parser.{Reads}

-- so many bytes, if they are UTF-8
abbrev pub utf16_front : ℕ → Reads (List ℕ)
utf16_front n text = if is_utf8 (take n text) then Ok (utf16_of (take n text), drop n text) else Err (Syntax, text)

-- all before the first byte that passes the test
unfoldable pub utf16_found : (ℕ → Bool) → Reads (List ℕ)
utf16_found ends text = utf16_front (position_or_len ends text) text

-- The text of an input, in UTF-8: the bytes of UTF-8, or of UTF-16 after a byte order mark.
use Rattle.std.specs.Prelude.{◌≡◌, ℕ, ◌==◌, ◌&&◌, ◌≤◌, All, if◌then◌else◌, List, ◌∷◌, ◌++◌}
use Rattle.sd_lines.specs.Utf16.{utf16_text}
use Rattle.sd_lines.specs.declared.decoder.Coding.{Coding}
use Rattle.sd_lines.specs.declared.decoder.Coding.TheVariants.{Unknown, Utf8, Utf16}
use Rattle.sd_lines.specs.declared.decoder.Decoder.{Decoder}
use Rattle.sd_lines.specs.declared.utf16.ByteOrder.TheVariants.{Little, Big}

-- the text without the byte order mark of UTF-8 before it
abbrev pub unmarked : List ℕ → List ℕ
unmarked (a ∷ b ∷ c ∷ rest) = if a == 239 && b == 187 && c == 191 then rest else a ∷ b ∷ c ∷ rest
unmarked bytes = bytes

-- the text of an input, without the byte order mark that it begins with. Without one it is in UTF-8
abbrev pub decoded : List ℕ → List ℕ
decoded (a ∷ b ∷ rest) = if a == 255 && b == 254 then utf16_text Little rest
    else (if a == 254 && b == 255 then utf16_text Big rest else unmarked (a ∷ b ∷ rest))
decoded bytes = bytes

-- bytes that may be the beginning of a mark, and none of whose text is in ASCII
abbrev pub IsPartOfMark : List ℕ → Type 0
IsPartOfMark bytes = (decoded bytes ≡ bytes) × All (λ b. 128 ≤ b) bytes

-- the text that is left of an input, where more bytes come
abbrev pub text_by : Coding → List ℕ → List ℕ
text_by Unknown bytes = decoded bytes
text_by Utf8 bytes = bytes
text_by (Utf16 order) bytes = utf16_text order bytes

-- of a decoder in UTF-8 no byte is held
abbrev pub text_in : Coding → List ℕ → List ℕ → List ℕ
text_in Utf8 held more = more
text_in coding held more = text_by coding (held ++ more)

abbrev pub text_after : Decoder → List ℕ → List ℕ
text_after decoder more = text_in decoder.coding decoder.held.items more

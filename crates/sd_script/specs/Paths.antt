-- Paths in lines: how a word spells one.
use Rattle.std.specs.Prelude.{◌≡◌, ℕ, Bool, ◌==◌, ◌||◌, List, Ok, codes}
use Rattle.std.specs.List.{list_any}
use Rattle.std.specs.Str.{IsUtf8}
use Rattle.std.specs.Str.Iter.{HasSubslice}
use Rattle.percent_encoding.specs.Percent.{percent_decode, percent_encode}
use Rattle.sd_path.specs.Names.{Names}
use Rattle.sd_path.specs.PathText.{path_of, text_of}
use Rattle.sd_script.specs.declared.paths.PathSpelling.{PathSpelling}
use Rattle.sd_script.specs.declared.paths.PathSpelling.TheVariants.{Plain, Percent}
use Rattle.sd_script.specs.declared.paths.TheConstants.{SPELLED}

-- the word spells the path; no `/` is spelled by `%`
abbrev pub IsPath : PathSpelling → List ℕ → Names → Type 0
IsPath Plain word names = path_of word ≡ Ok names
IsPath Percent word names =
    (HasSubslice word (codes "%2F") → ⊥) × (HasSubslice word (codes "%2f") → ⊥)
    × IsUtf8 (percent_decode word) × (path_of (percent_decode word) ≡ Ok names)

-- the word that is printed for a path: by `%` all controls, the space, `%` and what isn't ASCII
abbrev pub path_word : PathSpelling → Names → List ℕ
path_word Plain names = text_of names
path_word Percent names = percent_encode SPELLED (text_of names)

-- the path's text, as it is, would be more than one word of a line
abbrev pub is_split : Names → Bool
is_split names = list_any (λ b. b == 0x20 || b == 10) (text_of names)

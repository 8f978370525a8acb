-- What `who` answers of a node: whom its descriptor grants which rights, of all tokens that have a base. And what
-- `expect-only` does: whether it grants them to given groups alone.
use Rattle.std.specs.Prelude.{◌≡◌, ℕ, ◌==◌, Bool, false, not, ◌&&◌, List, [], ◌∷◌, Option, Some, None}
use Rattle.std.specs.List.{list_all}
use Rattle.sd_sid.specs.Mask.{holds, mask_of}
use Rattle.sd_sid.specs.Mapping.{MappingValue}
use Rattle.sd_sid.specs.Sid.{SidValue}
use Rattle.sd_acl.specs.Descriptor.{DescriptorValue}
use Rattle.sd_check.specs.Check.{dacl_entries}
use Rattle.sd_check.specs.declared.token.GroupState.{GroupState}
use Rattle.sd_analysis.specs.Who.{AllBeyond, HasEachOnce, IsMost, IsWho, is_in_base}
use Rattle.sd_analysis.specs.declared.who_has.Access.{Access}
use Rattle.sd_answer.specs.declared.forms.TheConstants.{EMPTY, NO_NODE}
use Rattle.sd_line.specs.Line.{LineOf, form}
use Rattle.sd_answer.specs.Who.{rights_asked, who_lines}
use Rattle.sd_script.specs.Expect.{expect_line}
use Rattle.sd_script.specs.Reply.{plain_line}

-- where no right is asked about, the answer says so
abbrev pub or_empty : List LineOf → List LineOf
or_empty [] = plain_line (form EMPTY) ∷ []
or_empty (first ∷ more) = first ∷ more

-- the lines of accesses that say exactly who is granted each right once: of tokens with the base, as `who` of
-- sd_analysis promises. A node that isn't there has its own answer
abbrev pub IsWhoAnswer : MappingValue → Option DescriptorValue → ℕ → List (SidValue × GroupState) → List LineOf → Type 0
IsWhoAnswer g None asked base answer = answer ≡ plain_line (form NO_NODE) ∷ []
IsWhoAnswer g (Some d) asked base answer =
    (all : List Access)
    × IsWho d.owner (dacl_entries d.dacl) g base (rights_asked g asked) all
    × IsMost d.owner (dacl_entries d.dacl) g base (rights_asked g asked) all
    × HasEachOnce (rights_asked g asked) all
    × AllBeyond base all
    × (answer ≡ or_empty (who_lines all))

-- no right of objects is asked about, which are those below place 21
abbrev pub asks_no_right : ℕ → Bool
asks_no_right rights = mask_of (λ b. holds rights b && holds 0x001FFFFF b) 32 == 0

-- each alternative is for one of the groups, which is enabled, whatever else it is unless
abbrev pub is_for : List (SidValue × GroupState) → Access → Bool
is_for groups access = list_all (λ a. is_in_base groups a.holder) access.alternatives.items

abbrev pub are_for : List (SidValue × GroupState) → List Access → Bool
are_for groups all = list_all (is_for groups) all

-- `ok` where the node is there, a right is asked about, and accesses that say exactly who of all tokens is granted each
-- right once are for the groups alone
abbrev pub IsOnly : MappingValue → Option DescriptorValue → ℕ → List (SidValue × GroupState) → List LineOf → Type 0
IsOnly g None asked groups answer = answer ≡ expect_line false ∷ []
IsOnly g (Some d) asked groups answer =
    (all : List Access)
    × IsWho d.owner (dacl_entries d.dacl) g [] (rights_asked g asked) all
    × IsMost d.owner (dacl_entries d.dacl) g [] (rights_asked g asked) all
    × HasEachOnce (rights_asked g asked) all
    × (answer ≡ expect_line (not (asks_no_right (rights_asked g asked)) && are_for groups all) ∷ [])

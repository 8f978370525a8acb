-- An object's list takes as many bytes as the one that is given, decides as that does, and hands nothing on.
use Rattle.sd_commands.proofs.Cited.{Ace, AceKind, Bool, List, MappingValue, NodeKind, ObjectDecidesAlike, ObjectHandsNothingOn, Option, SidValue, Some, TokenValue, [], ace_size, acl_size_of, and-false, and-true, ap, applies, applies_again, bit_and, decides, false, first, flat_map, fold-map, holds, holds-and, if◌then◌else◌, in_each_pass, is_allowed_by, is_granted, is_implied, is_limit, is_owner, list_any, mapped, nat_lt, not, pass_on, refl, same_sid, same_verdicts, true, unmarked_stays, ℕ, ◌&&◌, ◌+◌, ◌∙◌, ◌∷◌, ◌≡◌, ◌||◌}
use Rattle.std.specs.Prelude.{map}
use Rattle.sd_sid.specs.Sid.{owner_rights}
use Rattle.sd_analysis.specs.declared.descendants.Descendant.TheVariants.{Object, Container, ObjectBelow, ContainerBelow}
use Rattle.sd_inheritance.specs.Inheritance.{creator_group, creator_owner}
use Rattle.sd_inheritance.specs.declared.kind.NodeKind.TheVariants as kinds
use Rattle.sd_commands.specs.Object.{object_entry}

pub object_size : (es : List Ace) → acl_size_of (map object_entry es) ≡ acl_size_of es
object_size es = ap (λ n. 8 + n) (fold-map (λ n e. n + ace_size e) object_entry 0 es)

-- ---- flags

kept : (f b : ℕ) → holds 0xFC b ≡ true → holds (bit_and f 0xFC) b ≡ holds f b
kept f b is = holds-and f 0xFC b ∙ ap (λ x. holds f b && x) is ∙ and-true (holds f b)

gone : (f b : ℕ) → holds 0xFC b ≡ false → holds (bit_and f 0xFC) b ≡ false
gone f b is = holds-and f 0xFC b ∙ ap (λ x. holds f b && x) is ∙ and-false (holds f b)

-- ---- what is handed on

hands_nothing : (g : MappingValue) (kind : NodeKind) (owner group : SidValue) (es : List Ace)
    → flat_map (pass_on g kind owner group) (map object_entry es) ≡ []
hands_nothing g kind owner group [] = refl
hands_nothing g kind owner group (e ∷ es) =
    rw (unmarked_stays g kind owner group (object_entry e) (gone e.flags.0 0 refl) (gone e.flags.0 1 refl)) (hands_nothing g kind owner group es)

pub object_hands_nothing_on : ObjectHandsNothingOn
object_hands_nothing_on g Object es = hands_nothing g kinds.Object creator_owner creator_group es
object_hands_nothing_on g Container es = hands_nothing g kinds.Container creator_owner creator_group es
object_hands_nothing_on g ObjectBelow es = rw (hands_nothing g kinds.Container creator_owner creator_group es) refl
object_hands_nothing_on g ContainerBelow es = rw (hands_nothing g kinds.Container creator_owner creator_group es) refl

-- ---- what is granted

either : (one other : Bool) (e : Ace) (r s : Option Ace) → one ≡ other → is_allowed_by r ≡ is_allowed_by s
    → is_allowed_by (if one then Some (object_entry e) else r) ≡ is_allowed_by (if other then Some e else s)
either true true e r s is same = refl
either false false e r s is same = same
either true false e r s is same = cc
either false true e r s is same = cc

found : (g : MappingValue) (applies : AceKind → SidValue → Bool) (b : ℕ) (es : List Ace)
    → is_allowed_by (first g applies (map object_entry es) b) ≡ is_allowed_by (first g applies es b)
found g applies b [] = refl
found g applies b (e ∷ es) = either (decides g applies b (object_entry e)) (decides g applies b e) e _ _
    (ap (λ x. (not x && applies e.kind e.sid) && holds (mapped g e.mask) b) (kept e.flags.0 3 refl)) (found g applies b es)

limits : (es : List Ace) → list_any is_limit (map object_entry es) ≡ list_any is_limit es
limits [] = refl
limits (e ∷ es) = ap (λ x. (not x && same_sid e.sid owner_rights) || list_any is_limit (map object_entry es)) (kept e.flags.0 3 refl)
    ∙ ap (λ x. is_limit e || x) (limits es)

same_bits : (owner : Option SidValue) (es : List Ace) (g : MappingValue) (t : TokenValue) (b : ℕ)
    → is_granted owner (Some (map object_entry es)) g t b ≡ is_granted owner (Some es) g t b
same_bits owner es g t b =
    ap (λ x. bits x (is_allowed_by (first g (applies_again t owner) (map object_entry es) b)) (list_any is_limit (map object_entry es))) (found g (applies t owner) b es)
    ∙ ap (λ y. bits (is_allowed_by (first g (applies t owner) es b)) y (list_any is_limit (map object_entry es))) (found g (applies_again t owner) b es)
    ∙ ap (λ z. bits (is_allowed_by (first g (applies t owner) es b)) (is_allowed_by (first g (applies_again t owner) es b)) z) (limits es) where
      bits : Bool → Bool → Bool → Bool
      bits x y z = in_each_pass t (nat_lt b 21 && x) (nat_lt b 21 && y) || is_implied (is_owner t owner && not z) t.privileges.take_ownership t.privileges.security b

pub object_decides_alike : ObjectDecidesAlike
object_decides_alike owner es g t r = same_verdicts owner es (map object_entry es) g t (same_bits owner es g t) r

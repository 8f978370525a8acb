-- One more entry, and the places of partners.
use Rattle.std.proofs.Common.{List, Option, Some, [], add-one, ap, length, map, refl, take, ℕ, ◌++◌, ◌+◌, ◌<◌, ◌≡◌, ◌∷◌, Bool, get_or}
use Rattle.std.proofs.lemmas.Option.{slice_get_read}
use Rattle.std.proofs.lemmas.List.{length-map}
use Rattle.std.specs.List.{count_by, position, position_or_len, slice_get}
use Rattle.std.specs.Option.{option_map}
use Rattle.sd_whole.specs.declared.ace.WholeAce.{WholeAce}
use Rattle.sd_whole_text.specs.declared.no_text.AclKind.{AclKind}
use Rattle.sd_show.specs.Diff.{new_at, new_below, removed_at, removed_below}
use Rattle.sd_show.specs.Pairs.{CountedOf, counted_of, counts, is_partner, partner, partner_at, values}
use Rattle.sd_show.specs.Same.{same_entry}
use Rattle.sd_show.specs.Show.{entries_below, entry_at}
use Rattle.sd_show.specs.declared.pairs.Counted.{Counted}

-- the entry that is read at a place
pub got : {X : Type 0} (xs : List X) (k : ℕ) (x : X) → k < length xs → x ≡ get_or xs k x → slice_get xs k ≡ Some x
got xs k x low is = slice_get_read xs (length xs) k x refl low is

pub entry_more : (kind : AclKind) (es : List WholeAce) (k : ℕ) (e : WholeAce) → k < length es → e ≡ get_or es k e
    → entries_below kind es (k + 1) ≡ entries_below kind es k ++ entry_at kind (k + 1) (Some e)
unfolding entries_below
entry_more kind es k e low is = rw (got es k e low is) at (ap (entries_below kind es) (add-one k))

pub removed_more : (kind : AclKind) (ps : List (Option ℕ)) (es : List WholeAce) (k : ℕ) (e : WholeAce) → k < length es → e ≡ get_or es k e
    → removed_below kind ps es (k + 1) ≡ removed_below kind ps es k ++ removed_at kind (k + 1) (partner_at ps k) (Some e)
unfolding removed_below
removed_more kind ps es k e low is = rw (got es k e low is) at (ap (removed_below kind ps es) (add-one k))

pub new_more : (kind : AclKind) (old new : List (Option ℕ)) (es : List WholeAce) (k : ℕ) (e : WholeAce) → k < length es → e ≡ get_or es k e
    → new_below kind old new es (k + 1) ≡ new_below kind old new es k ++ new_at kind old new (k + 1) (partner_at new k) (Some e)
unfolding new_below
new_more kind old new es k e low is = rw (got es k e low is) at (ap (new_below kind old new es) (add-one k))

pub count_more : (es : List WholeAce) (k : ℕ) (e : WholeAce) → k < length es → e ≡ get_or es k e
    → counts es (k + 1) ≡ counts es k ++ (e, count_by (same_entry e) (take k es)) ∷ []
unfolding counts
count_more es k e low is = rw (got es k e low is) at (ap (counts es) (add-one k))

position_or_len-map : {X Y : Type 0} (p : Y → Bool) (f : X → Y) (xs : List X) → position_or_len p (map f xs) ≡ position_or_len (λ x. p (f x)) xs
position_or_len-map p f [] = refl
position_or_len-map p f (x ∷ xs) = rw (position_or_len-map p f xs) refl

-- the partner is found among the code's values
pub partner_is : (one : CountedOf) (others : List Counted) → partner (values others) one ≡ option_map (λ place. place + 1) (position (λ (other : Counted). is_partner one (counted_of other)) others)
partner_is one others = rw (position_or_len-map (is_partner one) counted_of others, length-map others counted_of) refl

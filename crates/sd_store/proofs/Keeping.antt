-- The rule of the store is kept by every step.
use Rattle.sd_store.proofs.Cited.{Admits, Err, Fits, IsPrefix, IsSound, Kept, KnownJournal, Ok, OnOk, Published, Result, Shows, StoreIdValue, Turns, TurnsAt, at_set, at_snoc, get_elem?, newcomer, refl, some, subst, whole_of, ℕ, ⊎_elim, ◌≡◌, ◌≢◌}
use Rattle.sd_store.proofs.Prefixes.{prefix_self, prefix_trans}

-- a reader that comes knows the empty journal
newcomer_fits : (n : StoreIdValue) (x : Published) → IsSound n x → Fits x newcomer
newcomer_fits n x sound = ((x.tree.journal, refl), sound.begins, refl)

pub admits : (n : StoreIdValue) → Admits (Kept n) newcomer
admits n x views kept = (
  kept.0,
  λ seat v at. ⊎_elim (λ (e : get_elem? views seat ≡ some v). kept.1 seat v e) (λ (e : newcomer ≡ v). subst (Fits x) e (newcomer_fits n x kept.0)) (at_snoc views newcomer v seat at),
)

-- what fitted still fits when journal and marks have gone on
fits_on : (x y : Published) (v : KnownJournal) → IsPrefix x.tree.journal y.tree.journal → IsPrefix x.marks.items y.marks.items → Fits x v → Fits y v
fits_on x y v journal marks fits = (
  prefix_trans v.journal x.tree.journal y.tree.journal fits.0 journal,
  prefix_trans v.marks x.marks.items y.marks.items fits.1 marks,
  fits.2,
)

whole_fits : (n : StoreIdValue) (y : Published) → IsSound n y → Fits y (whole_of y)
whole_fits n y sound = (prefix_self y.tree.journal, prefix_self y.marks.items, sound.ends)

-- a step to a value that goes on shows the whole of it
pub turns : (n : StoreIdValue) (seat : ℕ) (v : KnownJournal) (x y : Published) → (IsSound n x → IsSound n y)
    → IsPrefix x.tree.journal y.tree.journal → IsPrefix x.marks.items y.marks.items
    → TurnsAt (Kept n) seat v x y (Shows n)
turns n seat v x y sound journal marks views kept at =
    let after = sound kept.0 in (
      whole_of y,
      (
        after,
        λ j u e. ⊎_elim (λ (t : (j ≡ seat) × (whole_of y ≡ u)). subst (Fits y) t.1 (whole_fits n y after)) (λ (t : (j ≢ seat) × (get_elem? views j ≡ some u)). fits_on x y u journal marks (kept.1 j u t.1))
            (at_set views seat j (whole_of y) u e),
      ),
      (refl, after, fits_on x y v journal marks (kept.1 seat v at)),
    )

-- a look changes nothing, and shows the whole
pub looks : (n : StoreIdValue) (seat : ℕ) (v : KnownJournal) → Turns (Kept n) seat v (λ x. x) (Shows n)
looks n seat v x = turns n seat v x x (λ sound. sound) (prefix_self x.tree.journal) (prefix_self x.marks.items)

-- what is shown goes on from the view before
pub goes_on : (n : StoreIdValue) (v : KnownJournal) (x y : Published) (w : KnownJournal) → Shows n v x y w → IsPrefix v.journal w.journal × IsPrefix v.marks w.marks
goes_on n v x y w shows = rw (shows.0) (shows.2.0, shows.2.1)

pub on_ok : {T E : Type 0} {P : Type 0} (result : Result T E) → P → OnOk result P
on_ok (Ok value) p = p
on_ok (Err error) p = tt

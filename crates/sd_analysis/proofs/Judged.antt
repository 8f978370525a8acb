-- One entry more is judged, before those that were.
use Rattle.sd_analysis.proofs.Cited.{Ace, ActAlike, AreRedundant, Bool, Goes, GroupState, HasEffect, HasNoEffect, List, MappingValue, Option, SidValue, Stays, [], ap, arith, cases_eq, cases_lt, drop, drop-set-lt, drop_all, false, false_from_ne_true, false≢true, get_or, get_or-drop, get_or-set_other, get_or-set_same, get_or_past, inl, inr, is_marked, judged_in, length, length-append, length-drop, length-replicate, length-set, length-take-le, refl, replicate, set, subst, suc, sym, take, take-append-drop, take_all, true, unmarked, zero, ℕ, ◌++◌, ◌+◌, ◌-◌, ◌<◌, ◌∙◌, ◌∷◌, ◌≡◌, ◌≤◌, ◌⊎◌}
use Rattle.std.specs.List.{remove}
use Rattle.std.proofs.lemmas.List.{append-nil}
use Rattle.sd_analysis.proofs.Alike.{act_after, act_same, not_both}

-- the entries from a place on are judged
pub record IsJudged (owner : Option SidValue) (es : List Ace) (g : MappingValue) (base : List (SidValue × GroupState))
    (from : ℕ) (marks : List Bool) (list : List Ace) : Type 0 where
  pub each : length marks ≡ length es
  pub left : list ≡ take from es ++ unmarked (drop from marks) (drop from es)
  pub together : ActAlike owner g base es list
  pub no_effect : (place : ℕ) → from ≤ place → place < length es → is_marked marks place ≡ true
      → HasNoEffect owner (judged_in marks es place) g base place
  pub effect : (place : ℕ) → from ≤ place → place < length es → is_marked marks place ≡ false
      → HasEffect owner (judged_in marks es place) g base place
  pub rest : (place : ℕ) → place < from → is_marked marks place ≡ false

-- ---- lists

none_unmarked : (marks : List Bool) (es : List Ace) → length marks ≡ length es → ((place : ℕ) → is_marked marks place ≡ false) → unmarked marks es ≡ es
none_unmarked [] es room none = refl
none_unmarked (true ∷ marks) es room none = absurd (false≢true (sym (none 0)))
none_unmarked (false ∷ marks) [] room none = refl
none_unmarked (false ∷ marks) (e ∷ es) room none = ap (λ xs. e ∷ xs) (none_unmarked marks es (omega (arith, room)) (λ place. none (suc place)))

-- where nothing after it is marked, an entry is judged in the whole list
judged_whole : (marks : List Bool) (es : List Ace) (place : ℕ) → length marks ≡ length es
    → ((later : ℕ) → place < later → is_marked marks later ≡ false) → judged_in marks es place ≡ es
judged_whole marks es place room none =
    let rooms : length (drop (suc place) marks) ≡ length (drop (suc place) es) =
    length-drop (suc place) marks ∙ ap (λ n. n - suc place) room ∙ sym (length-drop (suc place) es) in
    ap (λ xs. take (suc place) es ++ xs)
    (none_unmarked (drop (suc place) marks) (drop (suc place) es) rooms
    (λ k. get_or-drop (suc place) marks k false ∙ none (suc place + k) (omega arith)))
    ∙ take-append-drop (suc place) es

-- an entry that stays
kept_split : (place : ℕ) (marks : List Bool) (es : List Ace) → place < length es → length marks ≡ length es → is_marked marks place ≡ false
    → judged_in marks es place ≡ take place es ++ unmarked (drop place marks) (drop place es)
kept_split place marks [] low room stays = absurd (omega arith)
kept_split place [] (e ∷ es) low room stays = absurd (omega (arith, room))
kept_split zero (true ∷ marks) (e ∷ es) low room stays = absurd (false≢true (sym stays))
kept_split zero (false ∷ marks) (e ∷ es) low room stays = refl
kept_split (suc place) (mark ∷ marks) (e ∷ es) low room stays = ap (λ xs. e ∷ xs) (kept_split place marks es (omega arith) (omega (arith, room)) stays)

-- and one that goes
gone_split : (place : ℕ) (marks : List Bool) (es : List Ace) → place < length es → length marks ≡ length es
    → remove (judged_in marks es place) place ≡ take place es ++ unmarked (drop place (set marks place true)) (drop place es)
gone_split place marks [] low room = absurd (omega arith)
gone_split place [] (e ∷ es) low room = absurd (omega (arith, room))
gone_split zero (mark ∷ marks) (e ∷ es) low room = refl
gone_split (suc place) (mark ∷ marks) (e ∷ es) low room = ap (λ xs. e ∷ xs) (gone_split place marks es (omega arith) (omega (arith, room)))

judged_set : (marks : List Bool) (es : List Ace) (at place : ℕ) → at ≤ place → judged_in (set marks at true) es place ≡ judged_in marks es place
judged_set marks es at place le =
    ap (λ ms. take (suc place) es ++ unmarked ms (drop (suc place) es)) (drop-set-lt (suc place) marks at true (omega arith))

-- ---- the loop

module _ (owner : Option SidValue) (es : List Ace) (g : MappingValue) (base : List (SidValue × GroupState)) where
  -- nothing is judged
  pub judged_none : (marks : List Bool) (from : ℕ) (left : List Ace) → left ≡ es → from ≡ length es → length marks ≡ length es
      → ((place : ℕ) → is_marked marks place ≡ false) → IsJudged owner es g base from marks left
  judged_none marks from left is is_from room none =
      let all : length es ≤ from = omega (arith, is_from) in
      record {
        each = room;
        left = is ∙ sym (ap (λ ms. take from es ++ unmarked ms (drop from es)) (drop_all from marks (omega (arith, all, room)))
            ∙ ap (λ xs. take from es ++ xs) (drop_all from es all) ∙ append-nil (take from es) ∙ take_all from es all);
        together = act_same g base owner es left is;
        no_effect = λ place high low. absurd (omega (arith, is_from, high, low));
        effect = λ place high low. absurd (omega (arith, is_from, high, low));
        rest = λ place low. none place;
      }

  room_at : (place : ℕ) (marks : List Bool) (left : List Ace) → place < length es → IsJudged owner es g base (suc place) marks left → place < length left
  room_at place marks left low before =
      let is : length left ≡ suc place + length (unmarked (drop (suc place) marks) (drop (suc place) es)) =
      ap length before.left ∙ length-append (take (suc place) es) _
      ∙ ap (λ n. n + length (unmarked (drop (suc place) marks) (drop (suc place) es))) (length-take-le (suc place) es (omega arith)) in
      omega (arith, is)

  pub left_room : {place from : ℕ} (marks : List Bool) (left : List Ace) → IsJudged owner es g base from marks left
      → place < length es → from ≡ suc place → place < length left
  left_room marks left before low is = room_at _ marks left low (subst (λ n. IsJudged owner es g base n marks left) is before)

  pub marks_room : {place from : ℕ} (marks : List Bool) (left : List Ace) → IsJudged owner es g base from marks left
      → place < length es → place < length marks
  marks_room marks left before low = let each = before.each in omega (arith, each, low)

  -- the next one stays
  judged_kept : (place : ℕ) (marks : List Bool) (left : List Ace) → place < length es → IsJudged owner es g base (suc place) marks left
      → HasEffect owner left g base place → IsJudged owner es g base place marks left
  judged_kept place marks left low before has =
      let unmarked_here = before.rest place (omega arith) in
      record {
        each = before.each;
        left = before.left ∙ kept_split place marks es low before.each unmarked_here;
        together = before.together;
        no_effect = λ p high inside marked. elim (cases_eq p place) [
          | inl here ↦ absurd (false≢true (sym (ap (is_marked marks) here ∙ unmarked_here) ∙ marked))
          | inr elsewhere ↦ before.no_effect p (omega (arith, high, elsewhere)) inside marked
        ];
        effect = λ p high inside not_marked. elim (cases_eq p place) [
          | inl here ↦ subst (λ n. HasEffect owner (judged_in marks es n) g base n) (sym here) (subst (λ xs. HasEffect owner xs g base place) before.left has)
          | inr elsewhere ↦ before.effect p (omega (arith, high, elsewhere)) inside not_marked
        ];
        rest = λ p inside. before.rest p (omega (arith, inside));
      }

  -- or goes
  judged_gone : (place : ℕ) (marks now : List Bool) (left rest : List Ace) → place < length es → IsJudged owner es g base (suc place) marks left
      → HasNoEffect owner left g base place → now ≡ set marks place true → rest ≡ remove left place → IsJudged owner es g base place now rest
  judged_gone place marks now left rest low before has is is_rest =
      let at_other : (p : ℕ) → (p ≡ place → ⊥) → is_marked now p ≡ is_marked marks p =
      λ p other. ap (λ ms. is_marked ms p) is ∙ get_or-set_other marks place p true false other in
      let here_marked : is_marked now place ≡ true =
      ap (λ ms. is_marked ms place) is ∙ get_or-set_same marks place true false (omega (arith, low, before.each)) in
      let same : (p : ℕ) → place ≤ p → judged_in marks es p ≡ judged_in now es p =
      λ p high. sym (ap (λ ms. judged_in ms es p) is ∙ judged_set marks es place p high) in
      record {
        each = ap length is ∙ length-set marks place true ∙ before.each;
        left = is_rest ∙ ap (λ xs. remove xs place) before.left ∙ gone_split place marks es low before.each
            ∙ ap (λ ms. take place es ++ unmarked (drop place ms) (drop place es)) (sym is);
        together = subst (ActAlike owner g base es) (sym is_rest) (act_after g base owner es left (remove left place) before.together has);
        no_effect = λ p high inside marked. elim (cases_eq p place) [
          | inl here ↦ subst (λ n. HasNoEffect owner (judged_in now es n) g base n) (sym here)
              (subst (λ xs. HasNoEffect owner xs g base place) (before.left ∙ same place (omega arith)) has)
          | inr elsewhere ↦ subst (λ xs. HasNoEffect owner xs g base p) (same p high)
              (before.no_effect p (omega (arith, high, elsewhere)) inside (sym (at_other p elsewhere) ∙ marked))
        ];
        effect = λ p high inside not_marked. elim (cases_eq p place) [
          | inl here ↦ absurd (false≢true (sym not_marked ∙ ap (is_marked now) here ∙ here_marked))
          | inr elsewhere ↦ subst (λ xs. HasEffect owner xs g base p) (same p high)
              (before.effect p (omega (arith, high, elsewhere)) inside (sym (at_other p elsewhere) ∙ not_marked))
        ];
        rest = λ p inside. at_other p (λ e. omega (arith, e, inside)) ∙ before.rest p (omega (arith, inside));
      }

  pub judged_next : {place from next : ℕ} (marks now : List Bool) (left rest : List Ace) → IsJudged owner es g base from marks left
      → Stays owner left g base place marks rest now ⊎ Goes owner left g base place marks rest now
      → place < length es → from ≡ suc place → next ≡ place → IsJudged owner es g base next now rest
  judged_next {place = place} marks now left rest before after low is is_next =
      let at = subst (λ n. IsJudged owner es g base n marks left) is before in
      subst (λ n. IsJudged owner es g base n now rest) (sym is_next) (elim after [
        | inl stays ↦ subst (λ ms. IsJudged owner es g base place ms rest) (sym stays.marks_stay)
            (subst (λ xs. IsJudged owner es g base place marks xs) (sym stays.list) (judged_kept place marks left low at stays.effect))
        | inr goes ↦ judged_gone place marks now left rest low at goes.no_effect goes.marked goes.list
      ])

  -- the marks of which each is by the rule: if each entry has an effect by itself, none is marked
  none_marked : (marks : List Bool) → length marks ≡ length es
      → ((place : ℕ) → place < length es → is_marked marks place ≡ true → HasNoEffect owner (judged_in marks es place) g base place)
      → ((place : ℕ) → place < length es → HasEffect owner es g base place)
      → (k place : ℕ) → length es ≤ place + k → is_marked marks place ≡ false
  none_marked marks room no_effect each zero place high = get_or_past marks place false (omega (arith, room, high))
  none_marked marks room no_effect each (suc k) place high = elim (cases_lt place (length es)) [
    | inr past ↦ get_or_past marks place false (omega (arith, room, past))
    | inl low ↦ false_from_ne_true _ (λ marked.
        let whole = judged_whole marks es place room (λ later after. none_marked marks room no_effect each k later (omega (arith, high, after))) in
        not_both g base owner es (remove es place) (each place low) (subst (λ xs. HasNoEffect owner xs g base place) whole (no_effect place low marked)))
  ]

  -- all are judged
  pub judged_all : (marks : List Bool) (from : ℕ) (left : List Ace) → from ≡ 0 → IsJudged owner es g base from marks left → AreRedundant owner es g base marks
  judged_all marks from left is before =
      let no_effect : (place : ℕ) → place < length es → is_marked marks place ≡ true → HasNoEffect owner (judged_in marks es place) g base place =
      λ place low. before.no_effect place (omega (arith, is)) low in
      let effect : (place : ℕ) → place < length es → is_marked marks place ≡ false → HasEffect owner (judged_in marks es place) g base place =
      λ place low. before.effect place (omega (arith, is)) low in
      let is_left : left ≡ unmarked marks es = subst (λ n. left ≡ take n es ++ unmarked (drop n marks) (drop n es)) is before.left in
      record {
        each = before.each;
        together = subst (ActAlike owner g base es) is_left before.together;
        no_effect = no_effect;
        effect = effect;
        none = (
          λ none place low. subst (λ xs. HasEffect owner xs g base place) (judged_whole marks es place before.each (λ later after. none later))
              (effect place low (none place)),
          λ each place. none_marked marks before.each no_effect each (length es) place (omega arith),
        );
      }

unmarked_at : (n place : ℕ) → get_or (replicate n false) place false ≡ false
unmarked_at zero place = refl
unmarked_at (suc n) zero = refl
unmarked_at (suc n) (suc place) = unmarked_at n place

-- marks as they are made
pub none_marked_at_first : (marks : List Bool) (n : ℕ) → marks ≡ replicate n false → (length marks ≡ n) × ((place : ℕ) → is_marked marks place ≡ false)
none_marked_at_first marks n is = (ap length is ∙ length-replicate n false, λ place. ap (λ ms. is_marked ms place) is ∙ unmarked_at n place)

use Rattle.sd_analysis.proofs.Cited.{IsSought, SidValue, ap, false, false≢true, get_or, holds, inl, inr, is_among, is_granted_alone, length, refl, sids_meet, subst, sym, take, take_all, true, ◌+◌, ◌<◌, ◌∙◌, ◌≡◌, ◌≤◌}
use Rattle.sd_analysis.proofs.Searched.{among_more, none_sought, nothing_found, search_done, still_left}
use Rattle.sd_analysis.proofs.compare_search.Case.search.Goals as goal

pub loop-place-init : goal.loop-place-init
loop-place-init c = record {
  room = λ unlisted. record { before = c.in_ok-both.ensures.before ∙ c.room.ensures unlisted; after = c.in_ok-both.ensures.after ∙ c.room.ensures unlisted };
  found = nothing_found c.args.self.now c.args.pass c.args.demand c.args.wanted _ c.new.ensures.items refl;
  gone = λ sids b low among. absurd (false≢true among);
}

pub returns-then-is_empty : goal.returns-then-is_empty
returns-then-is_empty c =
    none_sought c.args.self.now c.args.pass c.args.demand c.args.wanted c.new.result.items c.new.ensures.items (sym c.is_empty.ensures ∙ c.if-is_empty.true)

pub returns : goal.returns
returns c = search_done c.args.self.now c.requires c.args.pass c.args.demand c.args.wanted c.loop-place.found c.loop-place.invariant.found
    (λ sids b low among denied needed granted sought h. c.loop-place.invariant.gone sids b low
    (ap (λ xs. is_among xs sids.allowed) (take_all c.loop-place.place c.args.self.now.allowed.items
    (subst (λ xs. length xs ≤ c.loop-place.place) c.deref-allowed-items.ensures.value c.loop-place-test.false)) ∙ among) denied needed granted sought h)

pub try_at-requires-clause-within : goal.try_at-requires-clause-within
try_at-requires-clause-within c = subst (λ xs. c.loop-place.place < length xs) c.deref-allowed-items.ensures.value c.loop-place-test.true

pub try_at-requires-clause-at : goal.try_at-requires-clause-at
try_at-requires-clause-at c = c.allowed-item.is ∙ ap (λ xs. get_or xs c.loop-place.place c.allowed-item.result) c.deref-allowed-items.ensures.value

pub loop-place-preserved : goal.loop-place-preserved
loop-place-preserved c = record {
  room = c.in_ok-try_at.ensures.room;
  found = c.in_ok-try_at.ensures.found c.args.wanted c.loop-place.invariant.found;
  gone = λ sids b low among denied needed granted sought h.
      let same = c.deref-allowed-items.ensures.value in
      let place = c.loop-place.place in
      let tried : (x : SidValue) → is_among (take place c.args.self.now.allowed.items) x ≡ true → is_granted_alone c.args.self.now c.args.pass c.args.demand x b ≡ true
      → IsSought c.args.self.now c.args.pass c.args.demand (record { allowed = x; denied = sids.denied }) b
      → sids_meet c.args.self.now c.args.pass c.args.demand (record { allowed = x; denied = sids.denied }) b ≡ true → holds c.try_at.new.found.left b ≡ false =
      λ x before has is_sought met. still_left c.loop-place.found c.try_at.new.found b c.in_ok-try_at.ensures.less
      (c.loop-place.invariant.gone (record { allowed = x; denied = sids.denied }) b low before denied needed has is_sought met) in
      elim (among_more c.deref-allowed-items.result.now place c.allowed-item.result sids.allowed c.loop-place-test.true c.allowed-item.is
      (ap (λ xs. is_among (take (place + 1) xs) sids.allowed) same ∙ among)) [
        | inl before ↦ tried sids.allowed (sym (ap (λ xs. is_among (take place xs) sids.allowed) same) ∙ before) granted sought h
        | inr now ↦
            let has = ap (λ x. is_granted_alone c.args.self.now c.args.pass c.args.demand x b) now ∙ granted in
            let is_sought = subst (λ x. IsSought c.args.self.now c.args.pass c.args.demand (record { allowed = x; denied = sids.denied }) b) (sym now) sought in
            let met = ap (λ x. sids_meet c.args.self.now c.args.pass c.args.demand (record { allowed = x; denied = sids.denied }) b) now ∙ h in
            elim (c.in_ok-try_at.ensures.gone sids.denied b low denied needed has is_sought met) [
              | inl gone ↦ gone
              | inr before ↦ tried c.allowed-item.result before has is_sought met
            ]
      ];
}

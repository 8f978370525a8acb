-- The printed text of an entry, and of a list of them, is read as they are.
use Rattle.sd_text.proofs.Cited.{Ace, AceKind, Aliases, AllByRecursion, Allow, Deny, HasNamedFlags, IsAce, List, Ok, RightNames, [], ace_size, acl_size_of, append-nil, append_assoc, arith, codes, find, flags_canon, flat_map, kind_canon, le-ltb, opening, refl, rights_canon_in, sid_canon, subst, sum_by-append, sum_by-cons, sym, ℕ, ◌++◌, ◌+◌, ◌∙◌, ◌∷◌, ◌≡◌, ◌≤◌}
use Rattle.sd_text.specs.Rights.{names_from_greatest}
use Rattle.sd_text.specs.Entry.{kind, guid, entry, entry_end, entries}
use Rattle.sd_text.specs.Canon.{entry_canon_in}
use Rattle.sd_text.proofs.Loops.{reaches_start, item_more, item_last}
use Rattle.sd_text.proofs.Entries.{EntriesReach}
use Rattle.sd_text.proofs.CanonSids.{Stops, sid_read}
use Rattle.sd_text.proofs.CanonRights.{flags_read, rights_read}

-- the text of an entry behind its `(`, and what is behind the entry
unfoldable pub body : RightNames → Ace → List ℕ → List ℕ
body names e rest = kind_canon e.kind ++ (59 ∷ (flags_canon e.flags.0 ++ (59 ∷ (rights_canon_in names e.mask ++ (59 ∷ 59 ∷ 59 ∷ (sid_canon e.sid ++ 41 ∷ rest))))))

regroup : (k f r s rest : List ℕ) → (codes "(" ++ k ++ codes ";" ++ f ++ codes ";" ++ r ++ codes ";;;" ++ s ++ codes ")") ++ rest ≡ 40 ∷ (k ++ (59 ∷ (f ++ (59 ∷ (r ++ (59 ∷ 59 ∷ 59 ∷ (s ++ 41 ∷ rest)))))))
regroup k f r s rest = simp append_assoc

pub entry_text : (names : RightNames) (e : Ace) (rest : List ℕ) → entry_canon_in names e ++ rest ≡ 40 ∷ body names e rest
unfolding entry_canon_in body
entry_text names e rest = regroup (kind_canon e.kind) (flags_canon e.flags.0) (rights_canon_in names e.mask) (sid_canon e.sid) rest

kind_read : (k : AceKind) (rest : List ℕ) → find kind (kind_canon k ++ 59 ∷ rest) ≡ Ok (k, 59 ∷ rest)
unfolding kind
kind_read Allow rest = refl
kind_read Deny rest = refl

end_read : (size : ℕ) (e : Ace) (rest : List ℕ) → size + ace_size e ≤ 65535 → find (entry_end size e) (41 ∷ rest) ≡ Ok (e, rest)
unfolding entry_end
end_read size e rest fits = rw (le-ltb 65535 (size + ace_size e) fits) refl

guid_read : (rest : List ℕ) → find guid (59 ∷ rest) ≡ Ok (tt, rest)
unfolding guid
guid_read rest = refl

stops : (rest : List ℕ) → Stops (41 ∷ rest)
stops rest = record { no_digit = refl; no_dash = refl }

entry_read : (known : Aliases) (names : RightNames) (size : ℕ) (e : Ace) (rest : List ℕ) → IsAce e → HasNamedFlags e → size + ace_size e ≤ 65535 → find (entry known size) (body names e rest) ≡ Ok (e, rest)
unfolding entry body names_from_greatest
entry_read known names size e rest is named_only fits =
    let trustee = sid_canon e.sid ++ 41 ∷ rest in
    let mask = rights_canon_in names e.mask ++ (59 ∷ 59 ∷ 59 ∷ trustee) in
    let flags = flags_canon e.flags.0 ++ (59 ∷ mask) in
    rw (kind_read e.kind flags, flags_read e.flags.0 (59 ∷ mask) is.flags named_only refl, rights_read names e.mask (59 ∷ 59 ∷ 59 ∷ trustee) is.mask refl refl, guid_read (59 ∷ trustee), guid_read trustee, sid_read known e.sid (41 ∷ rest) is.sid (stops rest)) (end_read size e rest fits)

entries_again : (known : Aliases) (names : RightNames) (es done : List Ace) (start rest : List ℕ) → AllByRecursion IsAce es → AllByRecursion HasNamedFlags es → acl_size_of (done ++ es) ≤ 65535 → EntriesReach (entry known) start done (flat_map (entry_canon_in names) es ++ rest) → EntriesReach (entry known) start (done ++ es) rest
entries_again known names [] done start rest each named_only fits reached = rw (append-nil done) reached
entries_again known names (e ∷ es) done start rest each named_only fits reached =
    let after = flat_map (entry_canon_in names) es ++ rest in
    let here : EntriesReach (entry known) start done (40 ∷ body names e after) = subst (λ text. EntriesReach (entry known) start done text) (append_assoc (entry_canon_in names e) (flat_map (entry_canon_in names) es) rest ∙ entry_text names e after) reached in
    let parts = sum_by-append ace_size done (e ∷ es) in
    let first = sum_by-cons ace_size e es in
    let one = entry_read known names (acl_size_of done) e after each.0 named_only.0 (omega arith) in
    let more = item_more here refl one in
    rw (sym (append_assoc done (e ∷ []) es)) (entries_again known names es (done ++ e ∷ []) start rest each.1 named_only.1 (rw append_assoc fits) more)

pub entries_read : (known : Aliases) (names : RightNames) (es : List Ace) → AllByRecursion IsAce es → AllByRecursion HasNamedFlags es → acl_size_of es ≤ 65535 → find (entries known) (flat_map (entry_canon_in names) es) ≡ Ok (es, [])
unfolding entries
entries_read known names es each named_only fits =
    let start = flat_map (entry_canon_in names) es in
    let first : EntriesReach (entry known) start [] (start ++ []) = rw (append-nil start) (reaches_start opening (λ before u. entry known (acl_size_of before)) start) in
    item_last (entries_again known names es [] start [] each named_only fits first) refl

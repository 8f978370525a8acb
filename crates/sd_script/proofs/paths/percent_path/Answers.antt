-- What `%` spells is read as it is, where it spells no slash.
use Rattle.sd_script.proofs.Cited.{Err, Fault, HasSubslice, IsUtf8, LineStop, List, Memory, Names, Ok, Percent, Plain, Result, UnlessMemory, ap, codes, contains_text, false≢true, path, path_of, percent_decode, refl, sym, ℕ, ◌∙◌, ◌≡◌}
use Rattle.sd_script.proofs.paths.percent_path.Goals as goal

-- a word that doesn't spell a slash is read as what it spells
spelled_reads : (word spelled : List ℕ) (r : Result Names LineStop) → (HasSubslice word (codes "%2F") → ⊥) → (HasSubslice word (codes "%2f") → ⊥)
    → IsUtf8 (percent_decode word) → spelled ≡ percent_decode word → UnlessMemory (path Plain spelled) r → UnlessMemory (path Percent word) r
spelled_reads word spelled (Ok names) upper lower utf8 same read = (upper, lower, utf8, ap path_of (sym same) ∙ read)
spelled_reads word spelled (Err (Fault fault)) upper lower utf8 same read = (λ names is. read.0 names (ap path_of same ∙ is.3), read.1)
spelled_reads word spelled (Err Memory) upper lower utf8 same read = tt

pub returns-in-Ok : goal.returns-in-Ok
returns-in-Ok c =
    let bytes = c.percent_decode.ensures.bytes in
    let word = c.as_bytes.ensures.value in
    spelled_reads c.args.word.now c.deref.result.now c.plain_path.result
    (λ upper. false≢true (sym c.if-contains.false ∙ (contains_text c.contains.result (codes "%2F") c.args.word.now c.contains.ensures.cases).1 upper))
    (λ lower. false≢true (sym c.if-contains-2.false ∙ (contains_text c.contains-else-contains.result (codes "%2f") c.args.word.now c.contains-else-contains.ensures.cases).1 lower))
    (rw (bytes, word) at c.in-Ok.ensures.ok_only_if_utf8)
    (c.deref.ensures.value ∙ c.in-Ok.ensures.value ∙ bytes ∙ ap percent_decode word)
    c.plain_path.ensures

pub returns-in-Err-Utf8 : goal.returns-in-Err-Utf8
returns-in-Err-Utf8 c =
    let utf8 = rw (c.percent_decode.ensures.bytes, c.as_bytes.ensures.value) at c.in-Err-Utf8.ensures.utf8 in
    (λ names is. let no = sym c.in-Err-Utf8.field-0-is ∙ utf8 is.2 in cc (no), refl)

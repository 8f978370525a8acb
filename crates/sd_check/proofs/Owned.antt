-- An entry and an owner that are owned are themselves.
use Rattle.std.proofs.Common.{◌≡◌, ℕ, ◌∙◌, ◌++◌, [], List, Option, Some, map, ap, append-nil}
use Rattle.std.proofs.lemmas.Iterator.Adapters.{option_map_id}
use Rattle.sd_check.proofs.Cited.{MappingValue, SidValue, Ace, verdict, TokenValue, Verdict, option_map, map-id}

module _ (r : Verdict) (owner : Option SidValue) (g : MappingValue) (t : TokenValue) (asked : ℕ) where
  pub owned_lists : (front back : List Ace) → r ≡ verdict (option_map (λ s. s) owner) (Some (map (λ e. e) front ++ map (λ e. e) back)) g t asked
      → r ≡ verdict owner (Some (front ++ back)) g t asked
  owned_lists front back is =
      is ∙ ap (λ (o : Option SidValue). verdict o (Some (map (λ e. e) front ++ map (λ e. e) back)) g t asked) (option_map_id owner)
      ∙ ap (λ (es : List Ace). verdict owner (Some (es ++ map (λ e. e) back)) g t asked) (map-id front)
      ∙ ap (λ (es : List Ace). verdict owner (Some (front ++ es)) g t asked) (map-id back)

  pub owned_list : (es : List Ace) → r ≡ verdict (option_map (λ s. s) owner) (Some (map (λ e. e) es ++ [])) g t asked
      → r ≡ verdict owner (Some es) g t asked
  owned_list es is = owned_lists es [] is ∙ ap (λ (es : List Ace). verdict owner (Some es) g t asked) (append-nil es)

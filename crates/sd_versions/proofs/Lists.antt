-- Lists of requests, one after the other.
use Rattle.sd_versions.proofs.Cited.{List, Machine, Reply, Request, Runs, Steps, [], refl, subst, ◌++◌, ◌∷◌}

-- one more request
pub runs_push : (old : Machine) (requests : List Request) (replies : List Reply) (m : Machine) (request : Request) (reply : Reply) (new : Machine)
    → Runs old requests replies m → Steps m request reply new → Runs old (requests ++ request ∷ []) (replies ++ reply ∷ []) new
runs_push old [] [] m request reply new is step = (new, (subst (λ s. Steps s request reply new) is step, refl))
runs_push old [] (x ∷ xs) m request reply new runs step = absurd runs
runs_push old (q ∷ qs) [] m request reply new runs step = absurd runs
runs_push old (q ∷ qs) (x ∷ xs) m request reply new runs step =
    (runs.0, (runs.1.0, runs_push runs.0 qs xs m request reply new runs.1.1 step))

-- What follows from the output of an audit.
use Rattle.std.specs.Prelude.{◌≡◌, ◌⊎◌, ℕ, Bool, List, [], ◌∷◌, ◌++◌, None}
use Rattle.sd_edit.specs.Starts.{IsReaderCount}
use Rattle.sd_line.specs.Printed.{printed}
use Rattle.sd_line.specs.declared.print.Style.{Style}
use Rattle.sd_script.specs.Printed.{style_in}
use Rattle.sd_script.specs.Reply.{opened_line}
use Rattle.sd_script.specs.declared.script_options.ScriptOptions.{ScriptOptions}
use Rattle.sd_script_audit.specs.Audit.{PrintsAudit}

-- the answer to an opening, as it is printed; of a root that has all that its text says, or not
abbrev pub opening_text : Style → (is_all : Bool) → ℕ → List ℕ
opening_text style is_all workers = printed style None (opened_line is_all workers ∷ [])

-- two outputs are equal, or differ in the line of an opening alone
abbrev pub DifferInOpening : Style → ℕ → ℕ → List ℕ → List ℕ → Type 0
DifferInOpening style n m one other =
    (one ≡ other)
    ⊎ ((front : List ℕ) × (is_all : Bool) × (back : List ℕ)
    × (one ≡ front ++ opening_text style is_all n ++ back) × (other ≡ front ++ opening_text style is_all m ++ back))

-- audits of one text by n workers and by m differ in their opening alone; so by one number of workers it has one output
abbrev pub WorkersShowInTheOpening : Type 0
WorkersShowInTheOpening =
    (options : ScriptOptions) (n m : ℕ) (text one other : List ℕ) → IsReaderCount n → IsReaderCount m
    → PrintsAudit options n text one → PrintsAudit options m text other
    → DifferInOpening (style_in options.notation) n m one other

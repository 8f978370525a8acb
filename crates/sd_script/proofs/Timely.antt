-- What a line can ask for: an opening where no store is open, and something of a store where one is.
use Rattle.sd_script.proofs.Cited.{Arguments, Asks, Bool, LineRequest, List, None, Notation, Ok, Open, Option, Reading, ScriptCommand, Some, Value, arith, asks, asks_where, command_of, false, inl, inr, is_untimely, line_asks, not, opens, reads, reads_where, true, words_of, ℕ, ⊤, ◌≡◌, ◌▸◌}
use Rattle.std.proofs.Common.{refl}
use Rattle.sd_edit.specs.declared.edit.Edit.{Edit}
use Rattle.sd_script.specs.Command.{asks_groups, deletes, posed, stored}

-- all that a reading can give opens a store, or nothing that it can
abbrev Gives : Bool → Reading LineRequest → Type 0
Gives b reading = (asked : LineRequest) → reading (Ok asked) → opens asked ≡ b

-- and of what arguments can come to
abbrev Opens : Bool → Arguments → Type 0
Opens b (Asks asked) = opens asked ≡ b
Opens b (argument ▸ next) = (value : Value argument) → Opens b (next value)

abbrev OpensIfSome : Bool → Option Arguments → Type 0
OpensIfSome b None = ⊤
OpensIfSome b (Some arguments) = Opens b arguments

reads_open : (b : Bool) (notation : Notation) (arguments : Arguments) → Opens b arguments → Gives b (reads notation arguments)
reads_open b notation (Asks asked) opens_it a is = cc (opens_it, is)
reads_open b notation (argument ▸ next) opens_it a (inl (value, read, more)) = reads_open b notation (next value) (opens_it value) a more
reads_open b notation (argument ▸ next) opens_it a (inr (fault, read, is)) = absurd (cc (is))

-- an edit by a descriptor opens none
stored_opens : (is_all : Bool) (e : Edit) → opens (stored is_all e) ≡ false
stored_opens true e = refl
stored_opens false e = refl

-- the command that opens a store is the one that is untimely where one is open
words_open : (name : ScriptCommand) (arguments : List (List ℕ)) → OpensIfSome (is_untimely true name) (asks name arguments)
unfolding posed asks_groups deletes
words_open name arguments = grind (arith, stored_opens)

command_opens : (notation : Notation) (is_open : Bool) (name : ScriptCommand) (arguments : Option Arguments) → OpensIfSome (is_untimely true name) arguments
    → Gives (not is_open) (reads_where notation is_open name arguments)
command_opens notation is_open name None opens_it a is = absurd (cc (is))
command_opens notation true Open (Some arguments) opens_it a is = absurd (cc (is))
command_opens notation false Open (Some arguments) opens_it a is = reads_open true notation arguments opens_it a is
command_opens notation true name (Some arguments) opens_it a is = reads_open false notation arguments opens_it a is
command_opens notation false name (Some arguments) opens_it a is = absurd (cc (is))

where_opens : (notation : Notation) (is_open : Bool) (command : Option (ScriptCommand × List (List ℕ))) → Gives (not is_open) (asks_where notation is_open command)
where_opens notation is_open None a is = absurd (cc (is))
where_opens notation is_open (Some (name, arguments)) a is = command_opens notation is_open name (asks name arguments) (words_open name arguments) a is

-- a line opens a store just where none is open
pub line_opens : (notation : Notation) (is_open : Bool) (line : List ℕ) → Gives (not is_open) (line_asks notation is_open line)
line_opens notation is_open line a (inl (utf8, is)) = where_opens notation is_open (command_of (words_of line)) a is
line_opens notation is_open line a (inr (other, is)) = absurd (cc (is))

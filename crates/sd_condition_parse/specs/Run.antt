-- Runs of bytes of one class.
use Rattle.std.specs.Prelude.{ℕ, Bool, not, ◌&&◌, ◌||◌, ◌==◌, nat_lt, List, take, drop, Ok}
use Rattle.std.specs.Char.{digit_value}
use Rattle.std.specs.List.{prefix_len}
use Rattle.sd_condition_parse.specs.Outcome.{Parser}
use Rattle.sd_condition_parse.specs.declared.run.Class.{Class}
use Rattle.sd_condition_parse.specs.declared.run.Class.TheVariants.{Space, Plain, Unquoted, Digit}
use Rattle.sd_condition_text.specs.Attribute.{is_between, is_plain}

-- white space (wspace): a tab, a line feed, a vertical tab, a form feed, a carriage return or a space
abbrev pub is_space : ℕ → Bool
is_space byte = is_between 0x09 0x0d byte || byte == 0x20

-- a byte within quotes, which is neither the closing quote nor a zero
abbrev pub is_unquoted : ℕ → Bool
is_unquoted byte = not (byte == 0x22) && not (byte == 0)

-- a hexadecimal digit
abbrev pub is_digit : ℕ → Bool
is_digit byte = nat_lt (digit_value byte) 16

abbrev pub is_in : Class → ℕ → Bool
is_in Space = is_space
is_in Plain = is_plain
is_in Unquoted = is_unquoted
is_in Digit = is_digit

-- how many bytes of the class the text begins with
abbrev pub run_len : Class → List ℕ → ℕ
run_len class text = prefix_len (is_in class) text

-- the bytes of the class that the text begins with
abbrev pub run : Class → Parser (List ℕ)
run class text = Ok (take (run_len class text) text, drop (run_len class text) text)

-- white space, or none
abbrev pub space : Parser (Unit {0})
space text = Ok (tt, drop (run_len Space text) text)

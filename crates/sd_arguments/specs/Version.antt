-- The version of the program.
use Rattle.std.specs.Prelude.{ℕ, List, ◌++◌, codes}
use Rattle.sd_line.specs.Printed.{line}
use Rattle.sd_arguments.specs.declared.version.TheConstants.{VERSION}

-- the program's name and version
abbrev pub version_line : List ℕ
version_line = line (codes "sdstore " ++ VERSION.now)

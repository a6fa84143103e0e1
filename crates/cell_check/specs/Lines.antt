-- What is said of a cell's tiling.
use Rattle.std.specs.Prelude.{codes, ℕ, List, ◌++◌, decimal}
use Rattle.cell_check.specs.declared.verdict.Verdict.{Verdict}
use Rattle.cell_check.specs.declared.verdict.Verdict.TheVariants.{Tiles, TooMany, Crossed, Wrong}
use Rattle.exact_num.specs.Printed.{degrees}

-- the line of a verdict; a strip is named by its lower height, in degrees
abbrev pub verdict_line : Verdict → List ℕ
verdict_line (Tiles a) = codes "check tiles " ++ (decimal a ++ codes "\n")
verdict_line (TooMany n) = codes "check toomany " ++ (decimal n ++ codes "\n")
verdict_line (Crossed y) = codes "check crossed " ++ (degrees y ++ codes "\n")
verdict_line (Wrong y) = codes "check wrong " ++ (degrees y ++ codes "\n")

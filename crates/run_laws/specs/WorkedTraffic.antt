-- An example capture, docs/FORMATS.md, "Generated traffic": one command of one connection, made from 42.
use Rattle.std.specs.Prelude.{ℕ, List, ◌++◌, ◌∷◌, [], codes}

-- `get k0:9`, cut after six bytes
abbrev pub worked_traffic : List ℕ
worked_traffic =
    codes "ZYGCAP1\n" ++ 0 ∷ 0 ∷ 0 ∷ 1 ∷ 83 ∷ 0 ∷ 0 ∷ 0 ∷ 0 ∷ 0 ∷ 0 ∷ 0 ∷ 6 ∷ codes "get k0"
    ++ 83 ∷ 0 ∷ 0 ∷ 0 ∷ 0 ∷ 0 ∷ 0 ∷ 0 ∷ 4 ∷ codes ":9\r\n" ++ 69 ∷ []

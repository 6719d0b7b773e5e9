-- The script that the generator makes of a number, line by line.
use Rattle.std.specs.Prelude.{ℕ, List, ◌++◌, codes, decimal, flat_map}
use Rattle.std.specs.List.{range_with_len}

-- `s` is the secret, and `t` the sum of what the calls leave
abbrev pub first_line : List ℕ
first_line = codes "var t = 0, s = read(\"pin\");\n"

-- a function that adds k to a property of a new object, called once
abbrev pub call_line : ℕ → List ℕ
call_line k = codes "(function (o) { o.n = o.n + " ++ decimal k ++ codes "; t = t + o.n; })({ n: t % 10 });\n"

-- the sum goes to everybody, the secret to those who may know it
abbrev pub last_lines : List ℕ
last_lines = codes "print(\"pub\", t);\nprint(\"all\", s);\n"

-- the script: a call for each number from 1 on
unfoldable pub made : ℕ → List ℕ
made number = first_line ++ flat_map call_line (range_with_len 1 number) ++ last_lines

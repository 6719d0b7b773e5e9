-- Punctuators (ECMA-262 7.7).
use Rattle.std.specs.Prelude.{ℕ, List, [], ◌∷◌, ◌++◌, Bool, codes}
use Rattle.js_scan.specs.Names.{is_one_of}

-- by their lengths
abbrev pub punctuators_of_1 : List (List ℕ)
punctuators_of_1 = codes "{" ∷ codes "}" ∷ codes "(" ∷ codes ")" ∷ codes "[" ∷ codes "]" ∷ codes "." ∷ codes ";" ∷ codes "," ∷ codes "<" ∷ codes ">" ∷ codes "+" ∷ codes "-"
    ∷ codes "*" ∷ codes "%" ∷ codes "&" ∷ codes "|" ∷ codes "^" ∷ codes "!" ∷ codes "~" ∷ codes "?" ∷ codes ":" ∷ codes "=" ∷ codes "/" ∷ []

abbrev pub punctuators_of_2 : List (List ℕ)
punctuators_of_2 = codes "<=" ∷ codes ">=" ∷ codes "==" ∷ codes "!=" ∷ codes "++" ∷ codes "--" ∷ codes "<<" ∷ codes ">>" ∷ codes "&&" ∷ codes "||" ∷ codes "+=" ∷ codes "-="
    ∷ codes "*=" ∷ codes "%=" ∷ codes "&=" ∷ codes "|=" ∷ codes "^=" ∷ codes "/=" ∷ []

abbrev pub punctuators_of_3 : List (List ℕ)
punctuators_of_3 = codes "===" ∷ codes "!==" ∷ codes ">>>" ∷ codes "<<=" ∷ codes ">>=" ∷ []

abbrev pub punctuators_of_4 : List (List ℕ)
punctuators_of_4 = codes ">>>=" ∷ []

-- Punctuator and DivPunctuator
unfoldable pub is_punctuator : List ℕ → Bool
is_punctuator text = is_one_of (punctuators_of_1 ++ (punctuators_of_2 ++ (punctuators_of_3 ++ punctuators_of_4))) text

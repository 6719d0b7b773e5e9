-- Comments (ECMA-262 7.4).
use Rattle.std.specs.Prelude.{◌≡◌, ℕ, List, [], ◌∷◌, ◌++◌, Bool, false, ◌==◌, ◌&&◌, ◌||◌}
use Rattle.js_scan.specs.Units.{begins_with}

-- `*/` stands in the units
unfoldable pub has_close : List ℕ → Bool
has_close [] = false
has_close (u ∷ us) = (u == 42 && begins_with 47 us) || has_close us

abbrev pub spelled_line_comment : List ℕ → List ℕ
spelled_line_comment body = 47 ∷ 47 ∷ body

abbrev pub spelled_block_comment : List ℕ → List ℕ
spelled_block_comment body = 47 ∷ 42 ∷ (body ++ 42 ∷ 47 ∷ [])

-- a comment begins at the front of the units, and has no end
abbrev pub OpensComment : List ℕ → Type 0
OpensComment us = (body : List ℕ) × (us ≡ 47 ∷ 42 ∷ body) × (has_close body ≡ false)

-- the units begin with `//` or `/*`
unfoldable pub begins_comment : List ℕ → Bool
begins_comment [] = false
begins_comment (u ∷ us) = u == 47 && (begins_with 47 us || begins_with 42 us)

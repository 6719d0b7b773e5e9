-- The numbers of the integer profile.
use Rattle.std.specs.Prelude.{◌<◌, ◌^◌, Bool, nat_lt, ℤ, unsigned_abs}

-- a number of the profile: an integer below 2 ^ 53 in size
abbrev pub IsProfile : ℤ → Type 0
IsProfile n = unsigned_abs n < 2 ^ 53

-- that as a test
abbrev pub in_profile : ℤ → Bool
in_profile n = nat_lt (unsigned_abs n) (2 ^ 53)

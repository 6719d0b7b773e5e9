-- Sets of origins below 64 as the bits of a number.
use Rattle.std.specs.Prelude.{ℕ, ◌==◌}
use Rattle.std.specs.Int.{bit_at}
use Rattle.std.specs.List.{filter, range_with_len}
use Rattle.origin_labels.specs.Label.{Label}

-- the places of the ones among the lowest 64 bits
unfoldable pub origins_of : ℕ → Label
origins_of mask = filter (λ k. bit_at mask k == 1) (range_with_len 0 64)

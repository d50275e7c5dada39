-- An entry's parts are what it was made of, and the wrapped sums come out as a neighbour's entry.
-- Assumes nothing.
use Rattle.std.proofs.Common.{◌≡◌, ℕ, ◌+◌, ◌-◌, ◌*◌, ◌%◌, ◌^◌, ◌<◌, ◌≤◌, arith}
use Rattle.walk.specs.Climb.{cell_in, entry, mask_in, receiver_in, shifted}

pub record Parts (e receiver c mask : ℕ) : Type 0 where
  pub receiver_is : receiver_in e ≡ receiver
  pub cell_is : cell_in e ≡ c
  pub mask_is : mask_in e ≡ mask

pub entry-parts : (receiver c mask : ℕ) → c < 4096 → mask < 256 → Parts (entry receiver c mask) receiver c mask
entry-parts receiver c mask h k = record { receiver_is = omega arith; cell_is = omega arith; mask_is = omega arith }

-- sums that wrap come out as they would without
wrapped : (own there here back link e : ℕ) → own + there + link ≡ e + here + back → here + back ≤ 2 ^ 32 → e < 2 ^ 32
    → shifted own ((there + (2 ^ 32 - here) - back) % 2 ^ 32) link ≡ e
wrapped own there here back link e h k l = omega arith

-- the entry of cell d, whose receiver is c, from c's own number in both parts. x is the way from the window's first place, `back` the bit back
pub shifted-is : (c d w x back child link : ℕ) → c < 4096 → d < 4096 → w ≤ 64 → d + (w + 1) ≡ c + x → link < 256 → link ≡ child + back
    → shifted (entry c c 0) ((x * 256 + (2 ^ 32 - (w + 1) * 256) - back) % 2 ^ 32) link ≡ entry c d child
shifted-is c d w x back child link hc hd hw way small e =
    wrapped (entry c c 0) (x * 256) ((w + 1) * 256) back link (entry c d child) (omega arith) (omega arith) (omega arith)

-- The depths of the sample.
use Rattle.std.specs.Prelude.{ℕ, ◌+◌, ◌*◌, ◌/◌, ◌%◌, ◌^◌, ℤ, pos, ◌-ℤ◌, Bool, ◌&&◌, nat_le, bit_xor, Option, Some, None, if◌then◌else◌}

-- what 64 bits keep of a number
abbrev pub kept : ℕ → ℕ
kept m = m % 2 ^ 64

-- one number of 64 bits out of three
abbrev pub seed_of : ℕ → ℕ → ℕ → ℕ
seed_of n row col = kept (n * 6364136223846793005 + row * 1442695040888963407 + col * 2862933555777941757)

-- its upper bits mixed into the lower ones, and the whole multiplied
abbrev pub mixed : ℕ → ℕ
mixed seed = kept (bit_xor seed (seed / 2 ^ 33) * 18397679294719823053)

-- the noise at a node of the n-th sample, 0 to 1,999 millimetres, out of the 24 highest bits
abbrev pub noise_at : ℕ → ℕ → ℕ → ℕ
noise_at n row col = mixed (seed_of n row col) / 2 ^ 40 % 2000

-- the nodes without data: rows 100 to 119 of columns 200 to 239
abbrev pub bare : ℕ → ℕ → Bool
bare row col = (nat_le 100 row && nat_le row 119) && (nat_le 200 col && nat_le col 239)

-- a node's depth in millimetres: 90 more each column and 20 more each row, and the noise, from 1 metre above datum on
abbrev pub sample_depth : ℕ → ℕ → ℕ → Option ℤ
sample_depth n row col = if bare row col then None else Some (pos (90 * col + 20 * row + noise_at n row col) -ℤ pos 1000)

-- the depth of node k of rows of so many nodes, counted row by row
abbrev pub node_depth : ℕ → ℕ → ℕ → Option ℤ
node_depth n cols k = sample_depth n (k / cols) (k % cols)

-- Promised: the greatest numbers that a trace and a run over it may have.
use Rattle.std.specs.Prelude.{ℕ, ◌^◌, ◌≤◌}

-- how many records
abbrev pub most_records : ℕ
most_records = 2 ^ 48

-- how many bytes on a line, its end not counted
abbrev pub longest_line : ℕ
longest_line = 26

-- how many shards, each with a lane to it and a lane back
abbrev pub most_shards : ℕ
most_shards = 64

-- how many items a lane holds
abbrev pub most_items : ℕ
most_items = 65536

-- into how many parts the locations may be divided
abbrev pub most_parts : ℕ
most_parts = 65536

abbrev pub IsShardCount : ℕ → Type 0
IsShardCount n = (1 ≤ n) × (n ≤ most_shards)

abbrev pub IsPartCount : ℕ → Type 0
IsPartCount n = (1 ≤ n) × (n ≤ most_parts)

abbrev pub IsCapacity : ℕ → Type 0
IsCapacity n = (1 ≤ n) × (n ≤ most_items)

-- the greatest depth that the program may be given as its limit
abbrev pub IsDepth : ℕ → Type 0
IsDepth n = n ≤ 1000000

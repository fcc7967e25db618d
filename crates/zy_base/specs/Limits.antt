-- The limits of what is served and of what the files hold: docs/PROFILE.md and docs/FORMATS.md.
use Rattle.std.specs.Prelude.{ℕ, ◌^◌}

-- ---- keys, values and lines

-- the most bytes of a key
abbrev pub key_limit : ℕ
key_limit = 250

-- the most bytes of a value
abbrev pub value_limit : ℕ
value_limit = 1048576

-- the most bytes of a line: a longer one is not read
abbrev pub line_limit : ℕ
line_limit = 65536

-- ---- runs

-- the most connections
abbrev pub connection_limit : ℕ
connection_limit = 4096

-- the most shards
abbrev pub shard_limit : ℕ
shard_limit = 256

-- the most cores
abbrev pub core_limit : ℕ
core_limit = 64

-- the most commands of one hold
abbrev pub hold_limit : ℕ
hold_limit = 64

-- the most commands of one connection
abbrev pub command_limit : ℕ
command_limit = 2 ^ 40

-- every stamp is below this
abbrev pub stamp_limit : ℕ
stamp_limit = 2 ^ 60

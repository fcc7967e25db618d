-- The home core of a connection. George Prekas, Marios Kogias and Edouard Bugnion, "ZygOS", SOSP
-- 2017: flow groups, each with one home core. Here a connection's group is its number modulo 128,
-- and the groups are dealt to the cores in turn.
use Rattle.std.specs.Prelude.{ℕ, ◌%◌}

-- the flow group of a connection
abbrev pub group_of : ℕ → ℕ
group_of conn = conn % 128

-- the home core of a connection, among `cores` cores
abbrev pub home_of : ℕ → ℕ → ℕ
home_of cores conn = group_of conn % cores

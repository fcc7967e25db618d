-- Example counts.
use Rattle.mc_calls.specs.declared.tallied.Tallied.{Tallied}

-- nothing is counted
abbrev pub all_zero : Tallied
all_zero = record { gets = 0; sets = 0; hits = 0; misses = 0; items = 0 }

-- five numbers
abbrev pub one_each : Tallied
one_each = record { gets = 1; sets = 2; hits = 3; misses = 4; items = 5 }

-- numbers of 13 and of 12 digits
abbrev pub large : Tallied
large = record { gets = 1000000000000; sets = 0; hits = 12; misses = 123456789012; items = 0 }

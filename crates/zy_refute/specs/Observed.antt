-- Calls at a key as a recording shows them, and which of them surely come before others.
use Rattle.std.specs.Prelude.{ℕ, nat_lt, nat_eq, not, Bool, false, ◌&&◌, ◌||◌, Option, None, Some}
use Rattle.mc_allows.specs.declared.call_name.CallName.{CallName}
use Rattle.zy_refute.specs.declared.observed.Observed.{Observed}

-- two names are of one session
abbrev pub is_one_session : CallName → CallName → Bool
is_one_session one other = nat_eq one.conn other.conn && nat_eq one.session other.session

-- a call is in an earlier command of the same session, or in an earlier part of the same command
abbrev pub is_earlier_in_session : CallName → CallName → Bool
is_earlier_in_session one other =
    is_one_session one other
    && (nat_lt one.index other.index || (nat_eq one.index other.index && nat_lt one.part other.part))

-- two names are the same
abbrev pub is_same_name : CallName → CallName → Bool
is_same_name one other = is_one_session one other && (nat_eq one.index other.index && nat_eq one.part other.part)

-- a command had ended at a moment at which another was not sent
abbrev pub had_ended : Option ℕ → ℕ → Bool
had_ended None sent = false
had_ended (Some ended) sent = nat_lt ended sent

-- a call is surely before another one: it had ended when that was sent, or it is earlier in the same session
abbrev pub is_surely_before : Observed → Observed → Bool
is_surely_before one other =
    not (is_same_name one.name other.name)
    && (had_ended one.ended other.sent || is_earlier_in_session one.name other.name)

-- The text of a `set`.
use Rattle.std.proofs.Common.{◌≡◌, ℕ, Bool, List, [], ◌∷◌, refl, ap}
use Rattle.std.specs.Prelude.{codes}
use Rattle.mc_calls.specs.declared.call.Call.TheVariants.{Set as SetCall}
use Rattle.mc_calls.specs.declared.call_reply.CallReply.{CallReply}
use Rattle.mc_calls.specs.declared.call_reply.CallReply.TheVariants.{Miss, Hit, Stored, NotStored, Exists, NotFound, Deleted, Number, NotNumber, TooLarge, Flushed, Tally}
use Rattle.mc_calls.specs.Kind.{MayAnswer}
use Rattle.mc_parse.specs.declared.command.Command.TheVariants.{Store}
use Rattle.mc_parse.specs.declared.verb.Verb.TheVariants.{Set}
use Rattle.mc_reply.specs.Text.{line, unless, text}

-- a `set` has one reply
only_stored : (key : List ℕ) (flags : ℕ) (value : List ℕ) (reply : CallReply) → MayAnswer (SetCall key flags value) reply → reply ≡ Stored
only_stored key flags value Stored may = refl
only_stored key flags value Miss may = absurd may
only_stored key flags value (Hit f u v) may = absurd may
only_stored key flags value NotStored may = absurd may
only_stored key flags value Exists may = absurd may
only_stored key flags value NotFound may = absurd may
only_stored key flags value Deleted may = absurd may
only_stored key flags value (Number number) may = absurd may
only_stored key flags value NotNumber may = absurd may
only_stored key flags value TooLarge may = absurd may
only_stored key flags value Flushed may = absurd may
only_stored key flags value (Tally gets sets hits misses items) may = absurd may

-- so it has one text
pub set_said : (key : List ℕ) (flags : ℕ) (value : List ℕ) (quiet : Bool) (reply : CallReply) → MayAnswer (SetCall key flags value) reply
    → text (Store Set key flags value quiet) (reply ∷ []) ≡ unless quiet (line (codes "STORED"))
unfolding text
set_said key flags value quiet reply may = ap (λ (r : CallReply). text (Store Set key flags value quiet) (r ∷ [])) (only_stored key flags value reply may)

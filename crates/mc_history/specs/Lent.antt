-- A call with its reply that is lent or was made. No public clause cites this module.
use Rattle.mc_history.specs.declared.exchange.Exchange.{Exchange}
use Rattle.mc_history.specs.declared.lent_exchange.Kept.{Kept}
use Rattle.mc_history.specs.declared.lent_exchange.Kept.TheVariants.{Lent, Made}
use Rattle.mc_history.specs.Compact.{exchange}

-- the call and the reply, wherever they are
abbrev pub exchange_in : Kept → Exchange
exchange_in (Lent call reply) = exchange call.now reply.now
exchange_in (Made made) = made

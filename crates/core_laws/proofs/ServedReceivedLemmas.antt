-- What a connection receives ends.
use Rattle.std.proofs.Common.{◌≡◌, ℕ, List, true, ap}
use Rattle.zy_capture.specs.declared.record.Record.{Record}
use Rattle.zy_rx.specs.declared.rx.Rx.TheVariants.{End}
use Rattle.zy_rx.specs.Session.{Sessions, no_sessions, received_by}
use Rattle.zy_rx.proofs.SessionLemmas.{sessions-push}
use Rattle.zy_feed.specs.Routing.{items_for, offered_to}

pub offered_ended : (cores core conn : ℕ) (records : List Record) → (received_by conn (offered_to cores core records)).ended ≡ true
offered_ended cores core conn records = ap (λ (s : Sessions). s.ended) (sessions-push conn no_sessions (items_for cores core records) End)

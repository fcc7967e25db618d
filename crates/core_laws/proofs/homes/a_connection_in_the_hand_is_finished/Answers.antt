use Rattle.std.proofs.Common.{Some, refl}
use Rattle.zy_rx.specs.Session.{received_by}
use Rattle.zy_home.specs.Link.{conn_of}
use Rattle.zy_home.proofs.FinishLemmas.{conn_end}
use Rattle.core_laws.proofs.homes.a_connection_in_the_hand_is_finished.Goals as goal

pub returns : goal.returns
returns c = record { value = λ h p b l items k fine stands here kept. let i = k.each fine p (Some b) l here.0 here.1 in conn_end b l (received_by (conn_of l) items) kept (i.1 refl) i.0 (stands.links p l here.1) }

use Rattle.core_laws.proofs.ownership.a_busy_connection_has_one_request.Goals as goal

pub returns : goal.returns
returns g c = record { value = λ s place near busy. s.1.follows.due place near busy }

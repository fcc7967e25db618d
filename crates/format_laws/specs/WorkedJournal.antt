-- An example journal, docs/FORMATS.md, "Journal".
use Rattle.std.specs.Prelude.{ℕ, List, [], ◌∷◌}
use Rattle.mc_calls.specs.declared.call.Call.TheVariants as Calls
use Rattle.mc_calls.specs.declared.call_reply.CallReply.TheVariants as Answers
use Rattle.zy_journal.specs.declared.journal.Journal.{Journal}

-- "set a 0 0 1", "x", at stamp 1, and "gets a" at stamp 2, both finished in one hold
abbrev pub worked : Journal
worked = record {
  entries = record {
    tag = record { conn = 0; index = 0; part = 0 };
    shard = 12;
    call = Calls.Set (97 ∷ []) 0 (120 ∷ []);
    reply = Answers.Stored;
    stamp = 1;
  }
      ∷ record {
        tag = record { conn = 0; index = 1; part = 0 };
        shard = 12;
        call = Calls.Get (97 ∷ []);
        reply = Answers.Hit 0 28 (120 ∷ []);
        stamp = 2;
      } ∷ [];
  holds = record { core = 0; conn = 0; count = 2 } ∷ [];
}

-- its 114 bytes
abbrev pub worked_bytes : List ℕ
worked_bytes =
    90 ∷ 89 ∷ 71 ∷ 74 ∷ 82 ∷ 78 ∷ 49 ∷ 10 ∷ 74 ∷ 0 ∷ 0 ∷ 0 ∷ 0 ∷ 0 ∷ 0 ∷ 0 ∷ 1 ∷ 0 ∷ 0 ∷ 0 ∷ 12 ∷ 0 ∷ 0 ∷ 0 ∷ 0 ∷ 0 ∷
    0 ∷ 0 ∷ 0 ∷ 0 ∷ 0 ∷ 0 ∷ 0 ∷ 0 ∷ 0 ∷ 0 ∷ 0 ∷ 2 ∷ 1 ∷ 97 ∷ 0 ∷ 0 ∷ 0 ∷ 0 ∷ 0 ∷ 0 ∷ 0 ∷ 1 ∷ 120 ∷ 3 ∷ 74 ∷ 0 ∷ 0
    ∷ 0 ∷ 0 ∷ 0 ∷ 0 ∷ 0 ∷ 2 ∷ 0 ∷ 0 ∷ 0 ∷ 12 ∷ 0 ∷ 0 ∷ 0 ∷ 0 ∷ 0 ∷ 0 ∷ 0 ∷ 0 ∷ 0 ∷ 0 ∷ 0 ∷ 1 ∷ 0 ∷ 0 ∷ 0 ∷ 0 ∷ 1 ∷
    1 ∷ 97 ∷ 2 ∷ 0 ∷ 0 ∷ 0 ∷ 0 ∷ 0 ∷ 0 ∷ 0 ∷ 0 ∷ 0 ∷ 0 ∷ 0 ∷ 28 ∷ 0 ∷ 0 ∷ 0 ∷ 1 ∷ 120 ∷ 72 ∷ 0 ∷ 0 ∷ 0 ∷ 0 ∷ 0 ∷ 0
    ∷ 0 ∷ 0 ∷ 0 ∷ 0 ∷ 0 ∷ 2 ∷ 69 ∷ []

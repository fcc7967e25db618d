-- An example run of two connections, one of which has two sessions.
use Rattle.std.specs.Prelude.{ℕ, List, [], ◌∷◌, codes}
use Rattle.mc_calls.specs.declared.call.Call.TheVariants as Calls
use Rattle.mc_calls.specs.declared.call_reply.CallReply.TheVariants as Replies
use Rattle.mc_calls.specs.declared.entry.Entry.{Entry}
use Rattle.mc_calls.specs.declared.hold.Hold.{Hold}
use Rattle.zy_capture.specs.declared.record.Record.{Record}
use Rattle.zy_capture.specs.declared.record.Record.TheVariants as Kinds

-- connection 0 stores "a", closes, asks for "a", and begins a line; connection 1 asks for "a", quits, and goes on
abbrev pub worked_records : List Record
worked_records =
    Kinds.Segment (record { conn = 0; bytes = codes "set a 0 0 1\r\nx" })
    ∷ Kinds.Segment (record { conn = 1; bytes = codes "get a\r\nquit\r\nversion\r\n" })
    ∷ Kinds.Segment (record { conn = 0; bytes = codes "\r\n" })
    ∷ Kinds.Close 0
    ∷ Kinds.Segment (record { conn = 0; bytes = codes "gets a\r\nget" })
    ∷ []

-- at stamp 1 connection 1 gets a key of a shard, which has no item
abbrev pub missed : ℕ → List ℕ → Entry
missed shard key = record {
  tag = record { conn = 1; index = 0; part = 0 };
  shard = shard;
  call = Calls.Get key;
  reply = Replies.Miss;
  stamp = 1;
}

-- connection 0 stores "a" at stamp 2, and then gets it
abbrev pub stored_and_found : List Entry
stored_and_found =
    record {
      tag = record { conn = 0; index = 0; part = 0 };
      shard = 12;
      call = Calls.Set (codes "a") 0 (codes "x");
      reply = Replies.Stored;
      stamp = 2;
    }
    ∷ record {
      tag = record { conn = 0; index = 1; part = 0 };
      shard = 12;
      call = Calls.Get (codes "a");
      reply = Replies.Hit 0 28 (codes "x");
      stamp = 3;
    }
    ∷ []

-- one of its legal runs on 16 shards: connection 1 is first
abbrev pub worked_entries : List Entry
worked_entries = missed 12 (codes "a") ∷ stored_and_found

-- the outputs that belong to this run, session by session
abbrev pub worked_outputs : List (List (List ℕ))
worked_outputs =
    (codes "STORED\r\n" ∷ codes "VALUE a 0 1 28\r\nx\r\nEND\r\n" ∷ [])
    ∷ (codes "END\r\n" ∷ [])
    ∷ []

-- holds that span its commands
abbrev pub worked_holds : List Hold
worked_holds =
    record { core = 3; conn = 0; count = 1 }
    ∷ record { core = 0; conn = 0; count = 1 }
    ∷ record { core = 1; conn = 1; count = 1 }
    ∷ []

-- What comes after the last entry or hold of a journal, by what the reader keeps of it, and entries that may come next.
use Rattle.std.proofs.Common.{◌≡◌, inl, inr, ℕ, ◌<◌, ◌≤◌, Bool, true, false, sym, ◌∙◌, ap, arith}
use Rattle.std.specs.Prelude.{Option, None, Some, IfSome, IsSome, is_some}
use Rattle.mc_calls.specs.declared.call.Call.{Call}
use Rattle.mc_calls.specs.declared.call.Call.TheVariants as Calls
use Rattle.mc_calls.specs.declared.call_reply.CallReply.{CallReply}
use Rattle.mc_calls.specs.declared.call_reply.CallReply.TheVariants as Replies
use Rattle.mc_calls.specs.declared.entry.Entry.{Entry}
use Rattle.mc_calls.specs.declared.hold.Hold.{Hold}
use Rattle.mc_calls.specs.Bounds.{IsCall, IsReply, FitsCall, FitsReply}
use Rattle.mc_calls.specs.Order.{IsBehind}
use Rattle.mc_calls.proofs.CodeLemmas.{there}
use Rattle.zy_journal_reader.specs.declared.draft.Draft.{Draft}
use Rattle.zy_journal_reader.specs.declared.past.Past.{Past}
use Rattle.zy_journal_reader.specs.Steps.{ReadState}
use Rattle.zy_journal_reader.specs.Last.{last_one}
use Rattle.format_laws.specs.JournalFields.{IsNotBelow, IsNextEntry, IsNotFalling}
use Rattle.zy_journal_reader.proofs.SoFar.{stamp_of, shard_of, conn_of, Kept, ComesAfter, HeadKnown}
use Rattle.zy_journal_reader.proofs.SpelledLemmas.{entry_with}

-- after the last entry
pub comes_behind : (last : Option Entry) (past : Past) (e : Entry) → past.stamp ≡ stamp_of last → past.shard ≡ shard_of last → ComesAfter past e → IsBehind last e
comes_behind None past e stamp shard comes = tt
comes_behind (Some x) past e stamp shard (inl later) = inl (omega (arith, stamp, later))
comes_behind (Some x) past e stamp shard (inr same) = inr (sym stamp ∙ same.0, omega (arith, shard, same.1))

pub behind_comes : (last : Option Entry) (past : Past) (e : Entry) → past.stamp ≡ stamp_of last → past.shard ≡ shard_of last → 0 < e.stamp → IsBehind last e → ComesAfter past e
behind_comes None past e stamp shard some comes = inl (omega (arith, stamp, some))
behind_comes (Some x) past e stamp shard some (inl later) = inl (omega (arith, stamp, later))
behind_comes (Some x) past e stamp shard some (inr same) = inr (stamp ∙ same.0, omega (arith, shard, same.1))

pub not_below : (last : Option Entry) (past n : ℕ) → past ≡ stamp_of last → IsNotBelow last n → past ≤ n
not_below None past n stamp is = omega (arith, stamp)
not_below (Some x) past n stamp is = omega (arith, stamp, is)

pub above_is : (last : Option Entry) (past n : ℕ) → past ≡ stamp_of last → past ≤ n → IsNotBelow last n
above_is None past n stamp is = tt
above_is (Some x) past n stamp is = omega (arith, stamp, is)

pub not_falling : (last : Option Hold) (past n : ℕ) → past ≡ conn_of last → IsNotFalling last n → past ≤ n
not_falling None past n conn is = omega (arith, conn)
not_falling (Some x) past n conn is = omega (arith, conn, is)

pub rises : (last : Option Hold) (past n : ℕ) → past ≡ conn_of last → past ≤ n → IsNotFalling last n
rises None past n conn is = tt
rises (Some x) past n conn is = omega (arith, conn, is)

-- an entry with what was read before its call, and this call
pub next_entry : (p : ReadState) (d : Draft) (call : Call) (reply : CallReply) → Kept p.entries p.holds p.past → HeadKnown p.past d p.holds → IsCall call → FitsCall call → IsReply reply → FitsReply reply → IsNextEntry (last_one p.entries) (entry_with d call reply)
next_entry p d call reply kept h is fits within small = record {
  valid = record {
    some_stamp = h.0.0.0.0.1;
    few_stamps = h.0.0.0.0.2;
    few_shards = h.0.0.0.1;
    few_connections = h.0.0.1;
    few_commands = h.0.1;
    call = is;
    reply = within;
  };
  fits = record { part = h.1; call = fits; reply = small };
  comes = comes_behind (last_one p.entries) p.past (entry_with d call reply) kept.stamp_is kept.shard_is h.0.0.0.2;
}

-- the same with a call and a reply that are short
pub plain_entry : (p : ReadState) (d : Draft) → Kept p.entries p.holds p.past → HeadKnown p.past d p.holds → IsNextEntry (last_one p.entries) (entry_with d Calls.Flush Replies.Miss)
plain_entry p d kept h = next_entry p d Calls.Flush Replies.Miss kept h tt (tt, tt) tt ((tt, tt), tt)

-- a field that is there, or is not, is within its bound where it is one
pub field_is : {X : Type 0} (P : X → Type 0) (b : Bool) (x : X) → P x → IfSome (there b x) P
field_is P true x is = is
field_is P false x is = tt

-- a field is there
pub some_there : {X : Type 0} (o : Option X) (b : Bool) (x : X) → o ≡ there b x → b ≡ true → IsSome o
some_there {X} o b x is has = ap (λ (q : Option X). is_some q) is ∙ ap (λ (t : Bool). is_some (there t x)) has

-- Two calls are the same or not, and so are two replies.
use Rattle.std.specs.Prelude.{◌==◌, if◌then◌else◌, unwrap_or}
use Rattle.std.proofs.Common.{◌≡◌, ℕ, List, [], Option, None, Some, refl, sym, ap, ◌∙◌}
use Rattle.std.proofs.lemmas.Option.{none-some, same_Some}
use mathlib.Core.HLevel.{×_discrete}
use mathlib.Core.List.{List-discrete}
use native.Mathlib.Decide.{ℕ_discrete}
use Rattle.mc_calls.specs.declared.call.Call.{Call}
use Rattle.mc_calls.specs.declared.call_reply.CallReply.{CallReply}
use Rattle.mc_calls.specs.declared.call_reply.CallReply.TheVariants.{Hit, Number}
use Rattle.mc_calls.specs.declared.tallied.Tallied.{Tallied}
use Rattle.mc_calls.specs.Table.{parts_of, key_part, flags_part, number_part, value_part}
use Rattle.mc_calls.proofs.CodeLemmas.{kind_back, call_back}
use Rattle.mc_calls.specs.Code.{kind_of, call_of, call_kind, call_code, hit_code, number_code, tally_code, reply_code, reply_flags, reply_number, reply_value, reply_counts, tally, plain_reply}

-- values that are read back from codes can be compared if the codes can
pub told_by : {A B : Type 0} (code : A → B) (read : B → A) → ((a : A) → read (code a) ≡ a) → Discrete B → Discrete A
told_by {A} {B} code read back tells a b = go (tells (code a) (code b))
  where
    go : Dec (code a ≡ code b) → Dec (a ≡ b)
    go (yes same) = yes (sym (back a) ∙ ap read same ∙ back b)
    go (no differs) = no (λ same. differs (ap code same))

pub option_told : {A : Type 0} → Discrete A → Discrete (Option A)
option_told {A} tells None None = yes refl
option_told {A} tells None (Some y) = no (λ same. none-some y same)
option_told {A} tells (Some x) None = no (λ same. none-some x (sym same))
option_told {A} tells (Some x) (Some y) = go (tells x y)
  where
    go : Dec (x ≡ y) → Dec (Some x ≡ Some y)
    go (yes same) = yes (ap (λ (z : A). Some z) same)
    go (no differs) = no (λ same. differs (same_Some x y same))

pub bytes_told : Discrete (List ℕ)
bytes_told = List-discrete ℕ_discrete

-- ---- calls

-- the code of a call's kind, its key, its flags, its unique or its amount, and its value
abbrev Coded : Type 0
Coded = ℕ × (List ℕ × (ℕ × (ℕ × List ℕ)))

abbrev coded : Call → Coded
coded call = (call_code call, (key_part (parts_of call), (flags_part (parts_of call), (number_part (parts_of call), value_part (parts_of call)))))

abbrev call_by : Coded → Call
call_by (code, (key, (flags, (number, value)))) = call_of (kind_of code) key flags number value

coded_back : (call : Call) → call_by (coded call) ≡ call
coded_back call =
    ap (λ kind. call_of kind (key_part (parts_of call)) (flags_part (parts_of call)) (number_part (parts_of call)) (value_part (parts_of call))) (kind_back (call_kind call)) ∙ call_back call

pub call_told : Discrete Call
call_told = told_by coded call_by coded_back (×_discrete ℕ_discrete (×_discrete bytes_told (×_discrete ℕ_discrete (×_discrete ℕ_discrete bytes_told))))

-- ---- replies

-- the five numbers of a tally
abbrev CountParts : Type 0
CountParts = ℕ × (ℕ × (ℕ × (ℕ × ℕ)))

abbrev count_parts : Tallied → CountParts
count_parts counts = (counts.gets, (counts.sets, (counts.hits, (counts.misses, counts.items))))

abbrev counts_by : CountParts → Tallied
counts_by (gets, (sets, (hits, (misses, items)))) = record { gets = gets; sets = sets; hits = hits; misses = misses; items = items }

abbrev nothing : Tallied
nothing = record { gets = 0; sets = 0; hits = 0; misses = 0; items = 0 }

-- the code of a reply, its flags, its unique or number, its value, and its counts
abbrev ReplyParts : Type 0
ReplyParts = ℕ × (ℕ × (ℕ × (List ℕ × CountParts)))

abbrev reply_parts : CallReply → ReplyParts
reply_parts reply = (reply_code reply, (unwrap_or (reply_flags reply) 0, (unwrap_or (reply_number reply) 0, (unwrap_or (reply_value reply) [], count_parts (unwrap_or (reply_counts reply) nothing)))))

abbrev reply_by : ReplyParts → CallReply
reply_by (code, (flags, (number, (value, counts)))) =
    if code == hit_code then Hit flags number value else if code == number_code then Number number
    else if code == tally_code then tally (counts_by counts) else plain_reply code

reply_back : (reply : CallReply) → reply_by (reply_parts reply) ≡ reply
reply_back (Hit flags unique value) = refl
reply_back reply = refl

counts_told : Discrete CountParts
counts_told = ×_discrete ℕ_discrete (×_discrete ℕ_discrete (×_discrete ℕ_discrete (×_discrete ℕ_discrete ℕ_discrete)))

pub reply_told : Discrete CallReply
reply_told =
    told_by reply_parts reply_by reply_back (×_discrete ℕ_discrete (×_discrete ℕ_discrete (×_discrete ℕ_discrete (×_discrete bytes_told counts_told))))

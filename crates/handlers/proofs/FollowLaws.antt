-- What a step that is followed breaks and counts, and what the next step does to those that the bound follows. Assumes nothing.
use Rattle.std.specs.Prelude.{Ok, Err}
use mathlib.Core.Path.{◌≡◌, refl, sym, ap, ◌∙◌}
use mathlib.Core.Logic.{◌≢◌}
use mathlib.Core.Bool.{Bool, true, false, false≢true, cond, not, ◌&&◌}
use mathlib.Core.List.{List, []}
use mathlib.Core.Option.{Option, none, some, get_or, or_else, map}
use Prim.Native.Nat.{ℕ, ◌+◌, ◌≤◌, ◌<◌}
use native.Mathlib.Nat.{add-zero, zero-add}
use native.Mathlib.Omega.{arith}
use lib.Dec.{eqb, ltb}
use lib.ListN.{length}
use borrow.Author.Tests.{ltb-true, eq-eqb}
use Rattle.rules.specs.declared.Channel.{Channel}
use Rattle.rules.specs.declared.Step.{Step}
use Rattle.rules.specs.declared.Step.TheVariants as step
use Rattle.rules.specs.declared.NoBound.{NoBound}
use Rattle.rules.specs.declared.NoBound.TheVariants as no_bound
use Rattle.rules.specs.Image.{Image, image_length, has, CICR, IEN}
use Rattle.rules.specs.Channels.{most_records, list_ok}
use Rattle.rules.specs.Outcomes.{State, alone, Outcome, outcome, Answered, is_refused}
use Rattle.rules.specs.Registers.{write_of}
use Rattle.rules.specs.Sources.{sources}
use Rattle.rules.specs.Steps.{act_of}
use Rattle.rules.specs.Runs.{Event, event_of, history, until, one_if, counted, is_arbitration, event_acknowledges}
use Rattle.rules.specs.Demand3.{rival, H, selected_by, triggers}
use Rattle.rules.specs.Handlers.{is_write, raised, raised_of, up_to}
use Rattle.rules.specs.Bounds.{bounding, bound_at}
use Rattle.rules.specs.HandlerBounds.{changes, bases, first_changed, broken_step, broken_by, first_broken, handler_bound_in}
use Rattle.rules.proofs.Bools.{impossible, and_l, and_r}
use Rattle.rules.proofs.HandlerWrites.{file_leaves}
use Rattle.rules.proofs.ChangeLaws.{leaves_unchanged, none_first}
use Rattle.rules.proofs.Counting.{one_le}
use Rattle.dispatch.proofs.NextSteps.{Next, history_next}
use Rattle.bounds.specs.Followed.{Premises, rival_triggered}
use Rattle.bounds.proofs.FollowedSteps.{triggers-told}
use Rattle.handlers.specs.declared.Seen.{Seen}
use Rattle.handlers.specs.Handled.{broken, may_stand, file_write, broken_call, more, Follows, followed_from}
use Rattle.handlers.proofs.RaisedLaws.{raised-few, raised-none}

-- ---- a write, and a step that is none

-- a write is no arbitration, and no trigger
write-apart : (x : Step) → is_write x ≡ true → (is_arbitration x ≡ false) × ((m : Image) → selected_by m x ≡ none)
write-apart (step.Read r) w = absurd (false≢true w)
write-apart (step.Write r v) w = (refl, λ m. refl)
write-apart (step.Trigger t) w = absurd (false≢true w)
write-apart step.Arbitrate w = absurd (false≢true w)
write-apart step.Return w = absurd (false≢true w)
write-apart step.Reset w = absurd (false≢true w)
write-apart step.Unknown w = absurd (false≢true w)

module _ (cs : List Channel) (s : ℕ) (m m' : Image) (i : ℕ) where
  write-breaks : (x : Step) → is_write x ≡ true → broken_step cs s m x m' i ≡ first_changed (changes cs s m m') bases i
  unfolding broken_step
  write-breaks (step.Read r) w = absurd (false≢true w)
  write-breaks (step.Write r v) w = refl
  write-breaks (step.Trigger t) w = absurd (false≢true w)
  write-breaks step.Arbitrate w = absurd (false≢true w)
  write-breaks step.Return w = absurd (false≢true w)
  write-breaks step.Reset w = absurd (false≢true w)
  write-breaks step.Unknown w = absurd (false≢true w)

  call_breaks : (x : Step) → is_write x ≡ false → broken (broken_step cs s m x m' i) ≡ cond (may_stand x) (Ok tt) (Err (no_bound.OtherStep i))
  unfolding broken_step
  call_breaks (step.Read r) w = refl
  call_breaks (step.Write r v) w = absurd (false≢true (sym w))
  call_breaks (step.Trigger t) w = refl
  call_breaks step.Arbitrate w = refl
  call_breaks step.Return w = refl
  call_breaks step.Reset w = refl
  call_breaks step.Unknown w = refl

-- ---- a step that is followed

module _ (start before after : Image) (cs : List Channel) (s : ℕ) (x : Step) (i : ℕ) (a : Answered)
    (did : outcome a (alone after) ≡ act_of (alone before) cs x) where
  abbrev seen : Premises → ℕ → Seen
  seen b n = record { answer = a; broken = b; more = n }

  -- a write that was done
  pub follows_write : is_write x ≡ true → is_refused a ≡ false → (b : Premises) (n : ℕ) → b ≡ broken (first_changed (changes cs s before after) bases i)
      → n ≡ raised cs (rival start cs s) before after → Follows start before cs s x i (seen b n) after
  unfolding broken_by
  follows_write w r b n p q =
      record {
        did = did;
        breaks = rw ((write-apart x w).0, r, write-breaks cs s before after i x w) p;
        counts = rw (r, (write-apart x w).1 before, w) (q ∙ sym (zero-add (raised cs (rival start cs s) before after)));
      }

  -- one that was refused
  pub follows_refused : is_write x ≡ true → is_refused a ≡ true → Follows start before cs s x i (seen (Ok tt) 0) after
  unfolding broken_by
  follows_refused w r = record { did = did; breaks = rw ((write-apart x w).0, r); counts = rw (r, w) }

  -- one of R0 to R239 but CICR
  pub follows_file : length before ≡ image_length → list_ok cs ≡ true → s < sources cs → file_write x ≡ true → Follows start before cs s x i (seen (Ok tt) 0) after
  unfolding broken_by broken_step act_of
  follows_file long ok there w = go x w did
    where
      -- whether it is refused or not
      either : (t : Bool) → (Ok tt) ≡ broken (cond t none none)
      either true = refl
      either false = refl

      no_more : (t : Bool) → 0 ≡ one_if (not t && false) + cond (not t) 0 0
      no_more true = refl
      no_more false = refl

      go : (x : Step) → file_write x ≡ true → outcome a (alone after) ≡ act_of (alone before) cs x → Follows start before cs s x i (seen (Ok tt) 0) after
      go (step.Read r) w e = absurd (false≢true w)
      go (step.Write r v) w e =
          let low = ltb-true r 240 (and_l (ltb r 240) (not (eqb r CICR)) w) in
          let other : r ≢ CICR = λ q. false≢true (sym (ap not (eq-eqb r CICR q)) ∙ and_r (ltb r 240) (not (eqb r CICR)) w) in
          let same : after ≡ (write_of before cs r v).left = ap (λ (o : Outcome Answered State). o.left.image) e in
          let none-changed = none_first (changes cs s before (write_of before cs r v).left) i
          (leaves_unchanged cs s before (write_of before cs r v).left (file_leaves before cs s long ok there r v low other)) bases in
          record {
            did = e;
            breaks = rw (same, none-changed) (either (is_refused a));
            counts = rw (same, raised-none before cs ok (rival start cs s) r v low) (no_more (is_refused a));
          }
      go (step.Trigger t) w e = absurd (false≢true w)
      go step.Arbitrate w e = absurd (false≢true w)
      go step.Return w e = absurd (false≢true w)
      go step.Reset w e = absurd (false≢true w)
      go step.Unknown w e = absurd (false≢true w)

  -- any other step
  pub follows_call : list_ok cs ≡ true → is_write x ≡ false → (d : Bool) (b : Premises) (n : ℕ) → d ≡ (is_arbitration x && not (has before IEN)) → b ≡ broken_call x a d i
      → n ≡ one_if (rival_triggered start cs s x a) → Follows start before cs s x i (seen b n) after
  unfolding broken_by
  follows_call ok w d b n e p q =
      record {
        did = did;
        breaks = p ∙ rw (← e) (go d (is_refused a));
        counts = rw w (q ∙ ap one_if (sym (triggers-told before cs ok (rival start cs s) x a (alone after) did)) ∙ sym (add-zero _));
      }
    where
      go : (d r : Bool) → cond d (Err (no_bound.InterruptsDisabled i)) (cond r (Ok tt) (cond (may_stand x) (Ok tt) (Err (no_bound.OtherStep i))))
          ≡ broken (cond d (some (no_bound.InterruptsDisabled i)) (cond r none (broken_step cs s before x after i)))
      go true r = refl
      go false true = refl
      go false false = sym (call_breaks cs s before after i x w)

-- it counts twelve at most
pub follows_few : (start before after : Image) (cs : List Channel) (s : ℕ) (x : Step) (i : ℕ) (f : Seen) → list_ok cs ≡ true
    → Follows start before cs s x i f after → f.more ≤ most_records
unfolding act_of
follows_few start before after cs s x i f ok q = omega (arith, q.counts, few x q.did)
  where
    among : ℕ → Bool
    among = rival start cs s

    at_most_one : (x : Step) → is_write x ≡ false → more cs among (event_of (alone before) x (outcome f.answer (alone after))) ≤ most_records
    at_most_one x w = rw w (omega (arith, one_le (triggers among (event_of (alone before) x (outcome f.answer (alone after))))))

    written : (r v : ℕ) (refused : Bool) → one_if (not refused && false) + cond (true && not refused) (raised cs among before (write_of before cs r v).left) 0 ≤ most_records
    written r v true = omega arith
    written r v false = omega (arith, raised-few before cs ok among r v)

    few : (x : Step) → outcome f.answer (alone after) ≡ act_of (alone before) cs x
        → more cs among (event_of (alone before) x (outcome f.answer (alone after))) ≤ most_records
    few (step.Read r) e = at_most_one (step.Read r) refl
    few (step.Write r v) e =
        let same : after ≡ (write_of before cs r v).left = ap (λ (o : Outcome Answered State). o.left.image) e in
        rw same (written r v (is_refused f.answer))
    few (step.Trigger t) e = at_most_one (step.Trigger t) refl
    few step.Arbitrate e = at_most_one step.Arbitrate refl
    few step.Return e = at_most_one step.Return refl
    few step.Reset e = at_most_one step.Reset refl
    few step.Unknown e = at_most_one step.Unknown refl

-- ---- the loop

-- what the code has of what a step breaks, back
pub broken_some : (o : Option NoBound) (b : NoBound) → broken o ≡ (Err b) → o ≡ some b
broken_some none b e = impossible (cc)
broken_some (some q) b e = let same : q ≡ b = cc in ap some same

pub broken-none : (o : Option NoBound) → broken o ≡ (Ok tt) → o ≡ none
broken-none none e = refl
broken-none (some q) e = impossible (cc)

-- before the first step nothing is counted
pub followed-start : (m : Image) (cs : List Channel) (s : ℕ) (es : List Event) → handler_bound_in m cs s es ≡ followed_from cs s (rival m cs s) (H m cs s) 0 0 es
unfolding handler_bound_in followed_from
followed-start m cs s es = rw zero-add

module _ (cs : List Channel) (source : ℕ) (among : ℕ → Bool) (h e : ℕ) where
  -- after the last step: the bound
  pub followed_end : (s : State) (n : ℕ) {ys : List Step} → ys ≡ [] → followed_from cs source among h n e (up_to source (history s cs ys)) ≡ (Ok (bound_at h e (h + e + 1)))
  unfolding followed_from history until first_broken or_else counted raised_of
  followed_end s n q = rw (q, add-zero)

  module _ {s t : State} {ys xs : List Step} {x : Step} {a : Answered} (next : Next s t cs ys xs x a) (n : ℕ) where
    abbrev event : Event
    event = event_of s x (outcome a t)

    -- a step that breaks a premise is answered at once
    pub followed-broken : (b : NoBound) → broken_by cs source event n ≡ some b → followed_from cs source among h n e (up_to source (history s cs ys)) ≡ Err b
    unfolding followed_from until first_broken or_else
    followed-broken b p = rw (history_next next, p)

    module _ (unbroken : broken_by cs source event n ≡ none) where
      -- else what it triggers and raises is counted, and it is the last where it acknowledges ours
      pub followed-last : event_acknowledges source event ≡ true
          → followed_from cs source among h n e (up_to source (history s cs ys)) ≡ (Ok (bound_at h (e + more cs among event) (h + (e + more cs among event) + 1)))
      unfolding followed_from until first_broken or_else counted raised_of
      followed-last k = rw (history_next next, k, unbroken) (ap (λ (n : ℕ). (Ok (bound_at h n (h + n + 1)))) (omega arith))

      pub followed_on : event_acknowledges source event ≡ false
          → followed_from cs source among h n e (up_to source (history s cs ys))
          ≡ followed_from cs source among h (n + 1) (e + more cs among event) (up_to source (history t cs xs))
      unfolding followed_from until first_broken or_else counted raised_of
      followed_on k = rw (history_next next, k, unbroken) (ap (λ (e : ℕ). get_or (map Err (first_broken cs source (n + 1) (up_to source (history t cs xs)))) (bounding h e)) (omega arith))

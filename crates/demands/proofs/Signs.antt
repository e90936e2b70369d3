-- "Each call answers one signed number: bytes moved, or a refusal number negated.": its exact sign cases, for every call on every input.
use Prim.Native.Nat.{ℕ, zero, suc, ◌+◌, ◌≤◌, ◌<◌}
use native.Mathlib.Omega.{arith}
use mathlib.Core.Path.{◌≡◌, refl, sym, ap, subst, ◌∙◌}
use mathlib.Core.Bool.{Bool, true, false}
use mathlib.Core.Logic.{◌⊎◌, inl, inr, ◌≢◌}
use mathlib.Core.List.{List, [], ◌∷◌}
use lib.Dec.{eqb}
use lib.IntN.{ℤ, pos, negsuc}
use lib.ListN.{length, take}
use borrow.Author.Tests.{eqb-false}
use Rattle.model.specs.Lists.{first_not}
use Rattle.model.specs.declared.Geometry.{Geometry}
use Rattle.model.specs.declared.Numbers.{Numbers}
use Rattle.model.specs.declared.Numbers.TheVariants.{Old, New}
use Rattle.model.specs.Numbers.{Answer}
use Rattle.model.specs.Numbers.{Ok, Err}
use Rattle.model.specs.declared.Cause.TheVariants.{Wrong, Unsound, Unmapped, NoRoom, Device, CopyNoRoom, CopyDevice, Erase, Reason}
use Rattle.model.specs.Numbers.{number}
use Rattle.model.specs.Causes.{kind_of, OfReason, ReasonsIn}
use Rattle.model.specs.Device.{State, Out}
use Rattle.model.specs.PageWrite.{write_page}
use Rattle.model.specs.PageGc.{collect_list}
use Rattle.model.specs.Checkpoint.{file_tests, reason_of}
use Rattle.model.specs.Entry.{Recorder, Lent, lent, Outcome, unless, state_of, collecting}
use Rattle.model.specs.Entry.{formatting, opening, read, write, collection, list_collection, threshold_collection, encoding, restoring}
use Rattle.model.specs.History.{Call, Format, Open, Read, Write, Collect, CollectList, CollectThreshold, Encode, Restore, run}
use Rattle.model.proofs.Guard.{unless_by, guarded_by}
use Rattle.demands.proofs.Unchanged.{pass_kind, Pass, collect_pass, more_pass, threshold_pass, formats_all}
use Rattle.demands.specs.When.{IsCount, IsRefusal}
use Rattle.demands.proofs.Walk.{write_by}

-- "and the reason is the answer": 1 to 9
abbrev pub FairReason : ℕ → Type 0
FairReason k = (1 ≤ k) × (k ≤ 9)

abbrev pub Fair : Answer → Type 0
Fair = ReasonsIn FairReason

pass_fair : (a : Answer) → Pass a → Fair a
pass_fair (Ok m) h = tt
pass_fair (Err c) h = pass_kind (OfReason FairReason) (λ _. tt) tt (kind_of c) h

-- the first test that fails is one of them
first_in : (k : ℕ) (bs : List Bool) → (first_not k bs ≡ 0) ⊎ ((k ≤ first_not k bs) × (first_not k bs < k + length bs))
first_in k [] = inl refl
first_in k (false ∷ bs) = inr (omega arith, omega arith)
first_in k (true ∷ bs) = go (first_in (suc k) bs)
  where
    go : (first_not (suc k) bs ≡ 0) ⊎ ((suc k ≤ first_not (suc k) bs) × (first_not (suc k) bs < suc k + length bs))
        → (first_not (suc k) bs ≡ 0) ⊎ ((k ≤ first_not (suc k) bs) × (first_not (suc k) bs < k + suc (length bs)))
    go (inl e) = inl e
    go (inr h) = inr (omega (arith, h.0), omega (arith, h.1))

pub reason_in : (G : Geometry) (b : List ℕ) → reason_of G b ≢ 0 → (1 ≤ reason_of G b) × (reason_of G b ≤ 9)
unfolding reason_of
reason_in G b n = go (first_in 1 (file_tests G b))
  where
    go : (first_not 1 (file_tests G b) ≡ 0) ⊎ ((1 ≤ first_not 1 (file_tests G b)) × (first_not 1 (file_tests G b) < 10))
        → (1 ≤ first_not 1 (file_tests G b)) × (first_not 1 (file_tests G b) ≤ 9)
    go (inl e) = absurd (n e)
    go (inr h) = (h.0, omega (arith, h.1))

-- refusal numbers that are the same, and that are not
pub same_below : {k j : ℕ} → negsuc k ≡ negsuc j → k ≡ j
same_below e = ap below e
  where
    below : ℤ → ℕ
    below (pos m) = m
    below (negsuc m) = m

pub unlike : {A : Type 0} (k j : ℕ) → k ≢ j → negsuc k ≡ negsuc j → A
unlike k j n e = absurd (n (same_below e))

-- a count is no refusal number
pub unlike_count : {A : Type 0} (m j : ℕ) → pos m ≡ negsuc j → A
unlike_count m j e = absurd (subst counts e tt)
  where
    counts : ℤ → Type 0
    counts (pos m) = Unit {0}
    counts (negsuc k) = ⊥

abbrev count_of_answer : ℤ → ℕ
count_of_answer (pos k) = k
count_of_answer (negsuc k) = k

module _ (G : Geometry) (bad : List ℕ) where
  abbrev FairOut : Outcome → Type 0
  FairOut o = Fair o.answer

  write_fair : (l off : ℕ) (d : List ℕ) (st : State) → Fair (write_page G bad l off d st).answer
  write_fair l off d st = write_by G bad (λ o. Fair o.answer) l off d st tt (λ _ _ _. tt) (λ _ _ _. tt)

  restored_fair : (b : List ℕ) (c : Bool) → eqb (reason_of G b) 0 ≡ c → (x : Lent) (o : Outcome) → FairOut o → FairOut (unless c (Reason (reason_of G b)) x o)
  unfolding unless
  restored_fair b true e x o h = h
  restored_fair b false e x o h = reason_in G b (eqb-false _ _ e)

  collecting_fair : (x : Lent) (o : Out) → Pass o.answer → FairOut (collecting G bad x o)
  collecting_fair x o h = guarded_by FairOut _ _ _ _ x _ tt tt (λ _ _ _ _. pass_fair o.answer h)

  -- every reason that a call answers lies from 1 to 9
  pub fair : (c : Call) (r : Recorder) → Fair (run G bad c r).answer
  unfolding formatting opening read write encoding restoring collection list_collection threshold_collection collect_list
  fair Format r = guarded_by FairOut _ _ _ _ (lent r [] []) _ tt tt (λ _ _ _ _. subst Fair (sym (formats_all G bad G.n 0 (state_of G (lent r [] [])))) tt)
  fair Open r = guarded_by FairOut _ _ _ _ (lent r [] []) _ tt tt (λ _ _ _ _. tt)
  fair (Read sector len o s) r =
      guarded_by FairOut _ _ _ _ (lent r o s) _ tt tt (λ _ _ _ _. unless_by FairOut _ Unmapped (lent r o s) _ tt (λ _. tt))
  fair (Write sector len d s) r = guarded_by FairOut _ _ _ _ (lent r [] s) _ tt tt (λ _ _ _ _. write_fair _ _ (take len d) (state_of G (lent r [] s)))
  fair (Collect s) r = collecting_fair (lent r [] s) _ (collect_pass G bad (state_of G (lent r [] s)))
  fair (CollectList m s) r = collecting_fair (lent r [] s) _ (more_pass G bad m 0 (state_of G (lent r [] s)))
  fair (CollectThreshold t m s) r = collecting_fair (lent r [] s) _ (threshold_pass G bad t m (state_of G (lent r [] s)))
  fair (Encode b s) r = guarded_by FairOut _ _ _ _ (lent r b s) _ tt tt (λ _ _ _ _. tt)
  fair (Restore q b s) r = guarded_by FairOut _ _ _ _ (lent r [] s) _ tt tt (λ _ _ _ _. restored_fair b _ refl (lent r [] s) _ tt)

  pub signs : (N : Numbers) (c : Call) (r : Recorder) → IsCount (run G bad c r).answer ⊎ IsRefusal N (run G bad c r).answer
  signs N c r = go N (run G bad c r).answer (fair c r)
    where
      past : (N : Numbers) (k : ℕ) → 1 ≤ k → IsRefusal N (Err (Reason k))
      past N zero h = absurd (omega arith)
      past N (suc k) h = record { cause = Reason (suc k); below = k; answer = refl; refusal_is = refl; number_is = refl }

      go : (N : Numbers) (a : Answer) → Fair a → IsCount a ⊎ IsRefusal N a
      go N (Ok m) h = inl (record { moved = m; answer = refl; number_is = λ _. refl })
      go N (Err Wrong) h = inr (record { cause = Wrong; below = 21; answer = refl; refusal_is = refl; number_is = refl })
      go N (Err Unsound) h = inr (record { cause = Unsound; below = 116; answer = refl; refusal_is = refl; number_is = refl })
      go N (Err Unmapped) h = inr (record { cause = Unmapped; below = 60; answer = refl; refusal_is = refl; number_is = refl })
      go Old (Err NoRoom) h = inr (record { cause = NoRoom; below = 13; answer = refl; refusal_is = refl; number_is = refl })
      go New (Err NoRoom) h = inr (record { cause = NoRoom; below = 27; answer = refl; refusal_is = refl; number_is = refl })
      go N (Err Device) h = inr (record { cause = Device; below = 4; answer = refl; refusal_is = refl; number_is = refl })
      go Old (Err CopyNoRoom) h = inr (record { cause = CopyNoRoom; below = 13; answer = refl; refusal_is = refl; number_is = refl })
      go New (Err CopyNoRoom) h = inr (record { cause = CopyNoRoom; below = 27; answer = refl; refusal_is = refl; number_is = refl })
      go Old (Err CopyDevice) h = inr (record { cause = CopyDevice; below = 13; answer = refl; refusal_is = refl; number_is = refl })
      go New (Err CopyDevice) h = inr (record { cause = CopyDevice; below = 120; answer = refl; refusal_is = refl; number_is = refl })
      go N (Err Erase) h = inr (record { cause = Erase; below = 4; answer = refl; refusal_is = refl; number_is = refl })
      go N (Err (Reason k)) h = inr (past N k h.0)

  -- a reason from 1 to 9
  pub reasons : (c : Call) (r : Recorder) (k : ℕ) → (run G bad c r).answer ≡ Err (Reason k) → (1 ≤ k) × (k ≤ 9)
  reasons c r k e = subst Fair e (fair c r)

  -- a count that comes back was moved
  pub moved_of : (N : Numbers) (c : Call) (r : Recorder) (m : ℕ) → pos m ≡ number N (run G bad c r).answer → (run G bad c r).answer ≡ Ok m
  moved_of N c r m e = go (signs N c r)
    where
      go : IsCount (run G bad c r).answer ⊎ IsRefusal N (run G bad c r).answer → (run G bad c r).answer ≡ Ok m
      go (inl h) = h.answer ∙ ap (λ z. Ok (count_of_answer z)) (sym (e ∙ h.number_is N))
      go (inr h) = unlike_count m h.below (e ∙ h.number_is)

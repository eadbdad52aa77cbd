-- The calls from C, proved: a call's verdict decides its number and what it writes; a run's number tells which of its two parts decided.
-- Assumes nothing.
use native.Mathlib.Omega.{arith}
use mathlib.Core.Bool.{Bool, true, false, not}
use mathlib.Core.List.{List, [], ◌∷◌, ◌++◌}
use mathlib.Core.Path.{◌≡◌, refl, ap, sym, subst, ◌∙◌}
use Prim.Native.Nat.{ℕ, ◌%◌, ◌/◌, ◌<◌, min}
use lib.Dec.{eqb}
use lib.ListN.{length, drop}
use lib.Seq.{drop_at}
use Rattle.refusal.proofs.Numbers.{not_both}
use Rattle.refusal.specs.Numbers.{verdict_number, is_accepted, first_of_list, Verdict}
use Rattle.refusal.specs.declared.Refusal.TheVariants.{NotSound, BrokenEvent, ShortResults}
use Rattle.views.specs.Views.{table_of, picture_of}
use Rattle.chain.proofs.Rules.{rules}
use Rattle.chain.specs.Sound.{sound, count_sound}
use Rattle.chain.specs.Start.{start_of}
use Rattle.chain.specs.declared.Chain.{Chain}
use Rattle.views.specs.declared.PinView.{PinView}
use Rattle.views.specs.declared.Pins.{Pins}
use Rattle.views.specs.declared.RegisterView.{RegisterView}
use Rattle.views.specs.declared.Registers.{Registers}
use Rattle.run.specs.Run.{Report, broken_event, short_results, before_any, run_of}
use Rattle.image.proofs.OneToOne.{one_to_one}
use Rattle.image.specs.Layout.{head, image_of, over}
use Rattle.image.specs.OneToOne.{Whole}
use Rattle.image.specs.Reading.{byte, chain_in, is_image}
use Rattle.am9519a.proofs.Seen.{view_check, registers_called, pins_called}
use Rattle.am9519a.proofs.Told.{run_ready, run_done}
use Rattle.am9519a.proofs.Told as told
use Rattle.am9519a.specs.Calls.{Called, RunCalled, called, chain_of, table_bytes, picture_bytes, start_call, run_left, run_call, registers_call, pins_call}
use Rattle.demands.specs.Agree.{Agree}
use Rattle.demands.specs.FromC.{is_before_any, no_image, view_entries, Left, FromC, BytesAgree, AsTheModel}
use Rattle.demands.specs.Table.{Entry, given, run_entries, last_entries}
use Rattle.demands.proofs.Agree.{one_state}
use Rattle.demands.proofs.Rules.{by_the_rules}
use Rattle.demands.proofs.Runs.{runs_keep}
use Rattle.demands.proofs.Table.{by_the_table}
use Rattle.demands.proofs.Whole.{run_whole, start_whole}

-- a call by its verdict
refused_leaves : (v : Verdict) (old new : List ℕ) → ((called v old new).number ≡ 0 → ⊥) → (called v old new).buffer ≡ old
unfolding called
refused_leaves v old new other = search arith

accepted_writes : (v : Verdict) (old new : List ℕ) → (called v old new).number ≡ 0 → (called v old new).buffer ≡ new
unfolding called
accepted_writes v old new e = search arith

called_by : (v : Verdict) (old new : List ℕ) → (called v old new).number ≡ verdict_number v
unfolding called
called_by v old new = refl

-- a start
start_number : (count fill : ℕ) (image : List ℕ)
    → (start_call count fill image).number ≡ given ((1, not (eqb (length image) 528)) ∷ (1, not (count_sound count)) ∷ [])
unfolding start_call called start_of
start_number count fill image = search arith

-- a view
view_rest : (v : Verdict) (view new : List ℕ) (n : ℕ) → length new ≡ n → drop n (called v view (over view 0 new)).buffer ≡ drop n view
unfolding called
view_rest v view new n is = search (arith, drop_at)

-- the bytes of views that agree
bytes_agree : (t : Registers) (p : Pins) (table picture : List ℕ) → Agree t p → BytesAgree (over table 0 (table_bytes t)) (over picture 0 (picture_bytes p))
bytes_agree t p table picture a = search arith

-- a run: which numbers come before any event
before-first : (a b c : Bool)
    → is_before_any (verdict_number (first_of_list ((a, NotSound) ∷ (b, BrokenEvent) ∷ (c, ShortResults) ∷ [])))
    ≡ not (is_accepted (first_of_list ((a, NotSound) ∷ (b, BrokenEvent) ∷ (c, ShortResults) ∷ [])))
before-first a b c = search arith

-- entries of which none that applies is 1, 10 or 11
abbrev Later : List Entry → Type 0
Later [] = Unit {0}
Later (entry ∷ entries) = (entry.1 ≡ true → is_before_any entry.0 ≡ false) × Later entries

later_given : (l : List Entry) → Later l → is_before_any (given l) ≡ false
later_given [] h = refl
later_given ((n, true) ∷ l) h = h.0 refl
later_given ((n, false) ∷ l) h = later_given l h.1

run_later : (s : Chain) (events : List ℕ) (limit : ℕ) (results : List ℕ) → is_accepted (before_any s events results) ≡ true
    → Later (run_entries s events results ++ last_entries events (min limit (length events / 4)) (run_of s events limit results))
unfolding before_any
run_later s events limit results on = search (arith, runs_keep)

at_event_number : (s : Chain) (events : List ℕ) (limit : ℕ) (results : List ℕ) → is_accepted (before_any s events results) ≡ true
    → is_before_any (verdict_number (run_of s events limit results).ran.verdict) ≡ false
at_event_number s events limit results on = search (arith, by_the_table, later_given, run_later)

-- a run from C: 1, 10 and 11 leave everything, and otherwise it is the model's run on the chain in the image
run_called : (P : RunCalled → Type 0) (image events : List ℕ) (limit : ℕ) (results : List ℕ) (accepted : ℕ)
    → let r : Report = run_of (chain_in image) events limit results in
    (is_image image ≡ true → is_before_any (verdict_number r.ran.verdict) ≡ false
    → P (run_left (verdict_number r.ran.verdict) (image_of r.ran.chain) r.results r.ran.accepted))
    → ((n : ℕ) → is_before_any n ≡ true → P (run_left n image results accepted))
    → P (run_call image events limit results accepted)
unfolding before_any
run_called P image events limit results accepted goes stops = by (is_accepted (before_any (chain_of image) events results)) refl
  where
    v : Verdict
    v = before_any (chain_of image) events results

    by : (b : Bool) → is_accepted v ≡ b → P (run_call image events limit results accepted)
    by true on =
        let ready : (is_image image ≡ true) × (is_accepted (before_any (chain_in image) events results) ≡ true) = run_ready image events results v refl on in
        subst P (sym (run_done image events limit results accepted v refl on)) (goes ready.0 (at_event_number (chain_in image) events limit results ready.1))
    by false off =
        subst P (sym (told.run_refused image events limit results accepted v refl off))
        (stops (verdict_number v) (before-first (not (sound (chain_of image))) (broken_event (length events)).0 (short_results (length events) (length results)).0 ∙ ap not off))

run_refused : (image events : List ℕ) (limit : ℕ) (results : List ℕ) (accepted : ℕ)
    → is_before_any (run_call image events limit results accepted).number ≡ true
    → Left (run_call image events limit results accepted) image results accepted
run_refused image events limit results accepted =
    run_called (λ c. is_before_any c.number ≡ true → Left c image results accepted) image events limit results accepted
    (λ is later before. not_both (sym later ∙ before))
    (λ n is before. record { in_image = refl; in_results = refl; in_accepted = refl })

run_goes : (image events : List ℕ) (limit : ℕ) (results : List ℕ) (accepted : ℕ)
    → is_before_any (run_call image events limit results accepted).number ≡ false
    → let r : Report = run_of (chain_in image) events limit results in
    Left (run_call image events limit results accepted) (image_of r.ran.chain) r.results r.ran.accepted
run_goes image events limit results accepted =
    let r : Report = run_of (chain_in image) events limit results in
    run_called (λ c. is_before_any c.number ≡ false → Left c (image_of r.ran.chain) r.results r.ran.accepted) image events limit results accepted
    (λ is later goes. record { in_image = refl; in_results = refl; in_accepted = refl })
    (λ n is goes. not_both (sym goes ∙ is))

-- the image of a whole chain is read back
read_again : (s : Chain) → Whole s → (is_image (image_of s) ≡ true) × (chain_in (image_of s) ≡ s)
read_again s whole = (one_to_one.of_the_layout s whole, one_to_one.read_back s whole)

run_read : (image events : List ℕ) (limit : ℕ) (results : List ℕ) (accepted : ℕ)
    → is_before_any (run_call image events limit results accepted).number ≡ false
    → (is_image (run_call image events limit results accepted).image ≡ true)
    × (chain_in (run_call image events limit results accepted).image ≡ (run_of (chain_in image) events limit results).ran.chain)
run_read image events limit results accepted =
    let r : Report = run_of (chain_in image) events limit results in
    run_called (λ c. is_before_any c.number ≡ false → (is_image c.image ≡ true) × (chain_in c.image ≡ r.ran.chain)) image events limit results accepted
    (λ is later goes. read_again r.ran.chain (run_whole (chain_in image) events limit results (one_to_one.read_whole image is)))
    (λ n is goes. not_both (sym goes ∙ is))

-- a run's number is that of the model's run on the chain in the image, or on one that is not sound
called_number : (image events : List ℕ) (limit : ℕ) (results : List ℕ) (accepted : ℕ)
    → (run_call image events limit results accepted).number ≡ verdict_number (run_of (chain_of image) events limit results).ran.verdict
unfolding run_call
called_number image events limit results accepted = search arith

image_number : (image events : List ℕ) (limit : ℕ) (results : List ℕ) (accepted : ℕ) → is_image image ≡ true
    → (run_call image events limit results accepted).number ≡ verdict_number (run_of (chain_in image) events limit results).ran.verdict
image_number image events limit results accepted is = search (arith, called_number)

run_number : (image events : List ℕ) (limit : ℕ) (results : List ℕ) (accepted : ℕ)
    → (run_call image events limit results accepted).number
    ≡ given (no_image image ∷ run_entries (chain_in image) events results ++ last_entries events (min limit (length events / 4)) (run_of (chain_in image) events limit results))
unfolding rules before_any run_of
run_number image events limit results accepted = search (arith, by_the_table, called_number)

not-started : (count fill : ℕ) (image : List ℕ) → ((start_call count fill image).number ≡ 0 → ⊥) → (start_call count fill image).buffer ≡ image
unfolding start_call
not-started count fill image other = refused_leaves _ image (image_of (start_of count fill).chain) other

started : (count fill : ℕ) (image : List ℕ) → (start_call count fill image).number ≡ 0 → (start_call count fill image).buffer ≡ image_of (start_of count fill).chain
unfolding start_call
started count fill image e = accepted_writes _ image (image_of (start_of count fill).chain) e

-- what holds of a call for a view: what refuses it, and what it leaves
record OfImage (n : ℕ) (image : List ℕ) (chip : ℕ) (view bytes : List ℕ) (c : Called) : Type 0 where
  number : c.number ≡ given (view_entries n image chip view)
  refused : (c.number ≡ 0 → ⊥) → c.buffer ≡ view
  rest : drop n c.buffer ≡ drop n view
  shown : c.number ≡ 0 → c.buffer ≡ over view 0 bytes
  of_a_chip : c.number ≡ 0 → (is_image image ≡ true) × ((sound (chain_in image) ≡ true) × (chip < (chain_in image).count))

of_image : (n : ℕ) (image : List ℕ) (chip : ℕ) (view bytes : List ℕ) (c : Called) → c ≡ called (view_check n image chip view) view (over view 0 bytes)
    → length bytes ≡ n
    → OfImage n image chip view bytes c
of_image n image chip view bytes c is long = search (arith, called_by, refused_leaves, view_rest, accepted_writes)

table : (image : List ℕ) (chip : ℕ) (view : List ℕ) → OfImage 9 image chip view (table_bytes (table_of chip (chain_in image))) (registers_call image chip view)
table image chip view = of_image 9 image chip view (table_bytes (table_of chip (chain_in image))) (registers_call image chip view) (registers_called image chip view) refl

picture : (image : List ℕ) (chip : ℕ) (view : List ℕ) → OfImage 8 image chip view (picture_bytes (picture_of chip (chain_in image))) (pins_call image chip view)
picture image chip view = of_image 8 image chip view (picture_bytes (picture_of chip (chain_in image))) (pins_call image chip view) (pins_called image chip view) refl

head_event : (image : List ℕ) → is_image image ≡ true → ((chain_in image).event % 256 ≡ byte image 3) × ((chain_in image).event / 256 ≡ byte image 4)
unfolding image_of head
head_event image is = search (arith, one_to_one)

pub from_c : FromC
from_c = search (arith, start_number, run_number, table, picture, not-started, run_refused)

pub as_the_model : AsTheModel
as_the_model =
    record {
      start = started;
      run = run_goes;
      run_told = image_number;
      start_read = λ count fill image e.
          subst (λ (b : List ℕ). (is_image b ≡ true) × (chain_in b ≡ (start_of count fill).chain)) (sym (started count fill image e))
          (read_again (start_of count fill).chain (start_whole count fill));
      run_read = run_read;
      registers = λ image chip view e.
          let h : (is_image image ≡ true) × ((sound (chain_in image) ≡ true) × (chip < (chain_in image).count)) = (table image chip view).of_a_chip e in
          (table image chip view).shown e
          ∙ sym (ap (λ (v : RegisterView). over view 0 (table_bytes v.table)) (by_the_rules.table (chain_in image) chip h.1.0 h.1.1));
      pins = λ image chip view e.
          let h : (is_image image ≡ true) × ((sound (chain_in image) ≡ true) × (chip < (chain_in image).count)) = (picture image chip view).of_a_chip e in
          (picture image chip view).shown e
          ∙ sym (ap (λ (v : PinView). over view 0 (picture_bytes v.picture)) (by_the_rules.picture (chain_in image) chip h.1.0 h.1.1));
      agree = λ image chip table-view picture-view e f.
          subst (λ (b : List ℕ). BytesAgree b (pins_call image chip picture-view).buffer) (sym ((table image chip table-view).shown e))
          (subst (BytesAgree (over table-view 0 (table_bytes (table_of chip (chain_in image))))) (sym ((picture image chip picture-view).shown f))
          (bytes_agree (table_of chip (chain_in image)) (picture_of chip (chain_in image)) table-view picture-view (one_state (chain_in image) chip)));
      event_of_image = λ image chip view e.
          let h : ((chain_in image).event % 256 ≡ byte image 3) × ((chain_in image).event / 256 ≡ byte image 4) = head_event image ((table image chip view).of_a_chip e).0 in
          (ap (λ (b : List ℕ). byte b 0) ((table image chip view).shown e) ∙ h.0, ap (λ (b : List ℕ). byte b 1) ((table image chip view).shown e) ∙ h.1);
    }

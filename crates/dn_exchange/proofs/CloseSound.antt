-- A sound server can close its window, and stays sound.
use Rattle.std.proofs.Common.{◌≡◌, ◌≢◌, Bool, true, false, List, length, refl, sym, ap, subst, ◌∙◌, arith}
use Rattle.std.specs.Prelude.{All, slice_index_or}
use Rattle.dn_record_types.specs.declared.inventory.Inventory.{Inventory}
use Rattle.dn_record_types.specs.declared.statement.Statement.{Statement}
use Rattle.dn_record_types.specs.declared.statement.Statement.TheVariants as kinds
use Rattle.dn_records.specs.Records.{kind_byte}
use Rattle.dn_cert.specs.Signed.{EntryVerifies}
use Rattle.dn_window.specs.Window.{WindowState}
use Rattle.dn_server.specs.declared.parts.Parts.{Parts}
use Rattle.dn_server.specs.declared.run.Stage.TheVariants as stages
use Rattle.dn_server.specs.Parts.{live}
use Rattle.dn_server.specs.Server.{ServerView}
use Rattle.dn_rounds.specs.Going.{IsFree, HasLeaf, says}
use Rattle.dn_rounds.specs.Spoken.{spoken}
use Rattle.dn_exchange.specs.Closing.{inventory_of, with_window}
use Rattle.dn_exchange.specs.Ready.{CanClose, in_window}
use Rattle.dn_exchange.specs.Invariant.{IsSound, IsRunning, standing_of}
use Rattle.dn_exchange.proofs.ListSound.{inventory_verifies, inventory_fits}
use Rattle.dn_exchange.proofs.StepSound.{grows, says_sound}
use Rattle.dn_exchange.proofs.SteadyLemmas.{steady}

apart : true ≡ false → ⊥
apart e = cc

-- the window is shut
pub shut_sound : (v : ServerView) (w : WindowState) → IsSound v → w.closed ≡ true → w.submitted ≡ v.run.window.submitted → IsSound (with_window v w)
shut_sound v w s shut same = record {
  seated = record { roster = s.seated.roster; number = s.seated.number; seeds = s.seated.seeds };
  member = s.member;
  is_key = s.is_key;
  workers = s.workers;
  slots = s.slots;
  in_group = s.in_group;
  window = ap length same ∙ s.window;
  claims = s.claims;
  are_claims = s.are_claims;
  claimed = λ i c e. ap (λ (l : List Bool). slice_index_or l i false) same ∙ s.claimed i c e;
  is_open = λ e. absurd (apart (sym shut ∙ e));
  round = s.round;
  aside = s.aside;
  some_aside = λ b e. absurd (apart (sym shut ∙ e));
  running = s.running;
}

module _ (v : ServerView) (sound : IsSound v) (runs : v.run.is_running ≡ true) (at : v.run.stage ≡ stages.Collecting) (shut : v.run.window.closed ≡ true) where
  abbrev due : Statement
  due = kinds.Inventory (inventory_of v.run)

  now : IsRunning (standing_of v)
  now = sound.running runs

  same_inventory : (inventory : Inventory) → due ≡ kinds.Inventory inventory → inventory_of v.run ≡ inventory
  same_inventory inventory e = cc

  -- the inventory is said
  pub listed_sound : IsFree v due → HasLeaf v → IsSound (says v due stages.Listed v.run.sum)
  listed_sound free leaf =
      let course = now.course in
      let can = inventory_fits v sound course.small (omega (arith, course.before, course.small)) in
      let isnt : v.run.stage ≢ stages.Signed = λ e. let both = sym at ∙ e in cc in
      let g = grows v sound runs due can leaf refl
      (λ inventory e. subst (λ (x : Inventory). (x.prev ≡ v.run.prev) × All (EntryVerifies v.seat.roster v.run.r v.run.prev) x.entries) (same_inventory inventory e) (refl, inventory_verifies v sound))
      (λ x e. absurd (let kind : kind_byte due ≡ 5 = ap kind_byte e in omega (arith, kind))) isnt free in
      says_sound v sound runs due stages.Listed v.run.sum leaf shut
      (record { course = course; kept = g.running.kept; inventories = g.running.inventories; strings = g.running.strings; stage = g.own_there })

pub can_close : (p : Parts) → IsSound (live p) → CanClose p
can_close p sound isnt w shut same =
    let is = sound.is_open isnt in
    let course = (sound.running is.0).course in
    let here = shut_sound (live p) w sound shut same in
    record {
      claims = sound.claims;
      fits = inventory_fits (live p) sound course.small (omega (arith, course.before, course.small));
      leaf = λ b. omega (arith, sound.some_aside b isnt, sound.aside b);
      steady = λ leaf free. steady (spoken (in_window p w) (kinds.Inventory (inventory_of p.run)) stages.Listed) (listed_sound (live (in_window p w)) here is.0 is.1 shut free leaf);
    }

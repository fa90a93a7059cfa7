-- Ticks, one after another.
use Rattle.std.proofs.Common.{◌≡◌, ℕ, ◌+◌, List, refl, sym, ap, ◌∙◌, subst}
use Rattle.dn_told.specs.Window.{WindowEvent}
use Rattle.dn_window.specs.Closing.{with_tick}
use Rattle.dn_window.specs.Window.{WindowState, IsAfter, clients_of}
use Rattle.dn_cmd.specs.Window.{with_ticks}
use Rattle.dn_cmd.proofs.WindowLemmas.{with_ticks_more}

-- k ticks lead from one state of a window to another
pub record HasPassed (first now : WindowState) (k : ℕ) : Type 0 where
  pub after : (past : List WindowEvent) → IsAfter first past → IsAfter now (with_ticks first.expected k past)
  pub size : clients_of now ≡ clients_of first
  pub expects : now.expected ≡ first.expected

pub passed_none : (w : WindowState) → HasPassed w w 0
passed_none w = record { after = λ past h. h; size = refl; expects = refl }

pub passed_more : (first now next : WindowState) (k : ℕ) → HasPassed first now k
    → ((events : List WindowEvent) → IsAfter now events → IsAfter next (with_tick now.expected events))
    → clients_of next ≡ clients_of now → next.expected ≡ now.expected → HasPassed first next (k + 1)
passed_more first now next k passed after size expects = record {
  after = λ past h.
      subst (IsAfter next) (ap (λ e. with_tick e (with_ticks first.expected k past)) passed.expects ∙ sym (with_ticks_more first.expected k past))
      (after (with_ticks first.expected k past) (passed.after past h));
  size = size ∙ passed.size;
  expects = expects ∙ passed.expects;
}

-- What the bodies ask of a server's parts.
use Rattle.std.specs.Prelude.{◌≡◌, ℕ, false, true, [], ◌∷◌, ◌++◌, None, length}
use Rattle.dn_record_types.specs.declared.statement.Statement.TheVariants as kinds
use Rattle.dn_server.specs.declared.parts.Parts.{Parts}
use Rattle.dn_server.specs.declared.run.Stage.TheVariants as stages
use Rattle.dn_server.specs.Parts.{live}
use Rattle.dn_window.specs.Window.{WindowState}
use Rattle.dn_rounds.specs.Going.{HasLeaf, IsFree}
use Rattle.dn_rounds.specs.Sound.{IsSayable}
use Rattle.dn_rounds.specs.Spoken.{spoken}
use Rattle.dn_rounds.specs.Certifying.{IsSteady}
use Rattle.dn_records.specs.Records.{kind_byte}
use Rattle.dn_seal.specs.Said.{SaidView}
use Rattle.dn_server.specs.Server.{kept_of}
use Rattle.dn_server.specs.Keeping.{AreOfRound}
use Rattle.dn_exchange.specs.Closing.{inventory_of}
use Rattle.dn_exchange.specs.Hearing.{IsFaultless}
use Rattle.dn_exchange.specs.Invariant.{AreClaims}

-- the parts with another window
abbrev pub in_window : Parts → WindowState → Parts
in_window p w = record p { run = record p.run { window = w } }

-- the window of a round that runs is closed, and the server can post its inventory and go on
pub record CanList (p : Parts) : Type 0 where
  pub claims : length p.run.claims ≡ length p.identity.roster.clients
  pub fits : IsSayable p (kinds.Inventory (inventory_of p.run))
  pub leaf : p.bent ≡ false → HasLeaf (live p)
  pub steady : HasLeaf (live p) → IsFree (live p) (kinds.Inventory (inventory_of p.run)) → IsSteady (spoken p (kinds.Inventory (inventory_of p.run)) stages.Listed)

-- where its window is open, the server can close it and list
abbrev pub CanClose : Parts → Type 0
CanClose p = p.run.window.closed ≡ false → (w : WindowState) → w.closed ≡ true → w.submitted ≡ p.run.window.submitted → CanList (in_window p w)

-- the parts with a statement more that is kept
abbrev pub in_kept : Parts → SaidView → Parts
in_kept p said = record p { run = record p.run { kept = p.run.kept ++ said ∷ [] } }

-- The server can hear this statement that server j made of the round: all that is kept is of the round, its claims hold, and where nothing of the
-- kind is kept of that server and the statement has no fault, it can go on with it.
pub record CanHear (p : Parts) (j : ℕ) (said : SaidView) : Type 0 where
  pub round : AreOfRound p.run.r p.run.kept
  pub claims : AreClaims (live p).seat (live p).run
  pub steady : p.run.is_running ≡ true → kept_of p.run.kept (kind_byte said.statement) j ≡ None → IsFaultless (live p) j said.statement
      → IsSteady (in_kept p said)

-- A script that isn't plain has a group.
use Rattle.std.proofs.Common.{◌≡◌, ◌⊎◌, ◌∷◌, List, [], None, inl, inr, refl}
use Rattle.dn_script.specs.declared.context.Form.TheVariants as forms
use Rattle.dn_script.specs.declared.script_line.ScriptLine.TheVariants as lines
use Rattle.dn_script.specs.Context.{nothing_yet}
use Rattle.dn_script.specs.Plain.{plain_of}
use Rattle.dn_script.specs.Script.{Lines}
use Rattle.dn_script.specs.Spelled.{IsLegal}
use Rattle.dn_runner.specs.Play.{HasGroup}

-- no form has begun where nothing is read yet
no_plain : {A : Type 0} → forms.Nothing ≡ forms.Plain → A
no_plain same = let none : ⊥ = cc in absurd none

no_group : {A : Type 0} → forms.Nothing ≡ forms.Group → A
no_group same = let none : ⊥ = cc in absurd none

neither : {A : Type 0} → (forms.Nothing ≡ forms.Plain) ⊎ (forms.Nothing ≡ forms.Group) → A
neither same = elim same [
  | inl plain ↦ no_plain plain
  | inr group ↦ no_group group
]

-- Nothing but a plain script's first line and a group's can stand first, and a group's numbers are within their limits there.
pub not_plain : (script : Lines) → IsLegal nothing_yet script → plain_of script ≡ None → HasGroup script
not_plain [] legal none = let no : ⊥ = cc in absurd no
not_plain ((n, lines.Plain clients servers bits seed) ∷ rest) legal none = let no : ⊥ = cc in absurd no
not_plain ((n, lines.Group v clients servers ots clms slms seed) ∷ rest) legal none =
    let stands = legal.1 in
    record {
      group = record { version = v; clients = clients; servers = servers; ots = ots; client_lms = clms; server_lms = slms; seed = seed };
      says = refl;
      limits = record {
        version = stands.1;
        clients = stands.2;
        servers = stands.3;
        ots = stands.4;
        client_lms = stands.5;
        server_lms = stands.6;
      };
    }
not_plain ((n, lines.PlainSay i message) ∷ rest) legal none = no_plain legal.1.0
not_plain ((n, lines.PlainSubmit i) ∷ rest) legal none = no_plain legal.1.0
not_plain ((n, lines.PlainClose) ∷ rest) legal none = no_plain legal.1
not_plain ((n, lines.Corrupt members) ∷ rest) legal none = no_group legal.1.0
not_plain ((n, lines.Say i text) ∷ rest) legal none = no_group legal.1.0
not_plain ((n, lines.Open j r) ∷ rest) legal none = no_group legal.1.0
not_plain ((n, lines.Close j) ∷ rest) legal none = no_group legal.1.0
not_plain ((n, lines.Abandon j) ∷ rest) legal none = no_group legal.1.0
not_plain ((n, lines.Submit i j r) ∷ rest) legal none = no_group legal.1.0
not_plain ((n, lines.Deliver id) ∷ rest) legal none = no_group legal.1.0
not_plain ((n, lines.Lose id) ∷ rest) legal none = no_group legal.1.0
not_plain ((n, lines.Cut m k) ∷ rest) legal none = no_group legal.1.0
not_plain ((n, lines.Flow k) ∷ rest) legal none = no_group legal.1.0
not_plain ((n, lines.Tick k) ∷ rest) legal none = neither legal.1.0
not_plain ((n, lines.Leave i) ∷ rest) legal none = no_group legal.1.0
not_plain ((n, lines.Accuse i r k) ∷ rest) legal none = no_group legal.1.0
not_plain ((n, lines.Judge r k) ∷ rest) legal none = no_group legal.1.0
not_plain ((n, lines.Race j w clients) ∷ rest) legal none = no_group legal.1.0
not_plain ((n, lines.Live t) ∷ rest) legal none = no_group legal.1.0
not_plain ((n, lines.Twist m t) ∷ rest) legal none = no_group legal.1.0
not_plain ((n, lines.Inject m to bytes) ∷ rest) legal none = no_group legal.1.0
not_plain ((n, lines.Speak m to bytes) ∷ rest) legal none = no_group legal.1.0
not_plain ((n, lines.Replay p to) ∷ rest) legal none = no_group legal.1.0
not_plain ((n, lines.Lure j i r) ∷ rest) legal none = no_group legal.1.0
not_plain ((n, lines.Complete j r) ∷ rest) legal none = no_group legal.1.0
not_plain ((n, lines.End) ∷ rest) legal none = neither legal.1

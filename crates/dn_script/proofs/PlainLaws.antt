-- The plain script of some lines keeps its limits.
use Rattle.std.proofs.Common.{◌≡◌, ℕ, List, [], ◌∷◌, refl, sym, subst, ◌∙◌, arith}
use Rattle.std.specs.List.{All, AllByRecursion}
use Rattle.std.proofs.lemmas.List.Elements.{All-nil, All-cons, All-append}
use Rattle.std.proofs.lemmas.List.FromFn.{length-map-range_with_len}
use Rattle.dn_bits.specs.Bits.{first_bits, bit_of_bytes}
use Rattle.dn_script.specs.declared.context.Form.TheVariants as forms
use Rattle.dn_script.specs.declared.script_line.ScriptLine.{ScriptLine}
use Rattle.dn_script.specs.declared.script_line.ScriptLine.TheVariants as lines
use Rattle.dn_script.specs.declared.plain_line.PlainLine.{PlainLine}
use Rattle.dn_script.specs.declared.plain_line.PlainLine.TheVariants.{Say, Submit, Tick, Close}
use Rattle.dn_script.specs.Context.{Context, nothing_yet}
use Rattle.dn_script.specs.Script.{Lines, with_line}
use Rattle.dn_script.specs.Spelled.{Stands, IsLegal}
use Rattle.dn_script.specs.Plain.{plain_line, plain_lines, CanSay, Fits, IsScript}

-- a plain script of so many clients and bits has begun
pub record IsPlainOf (n b : ℕ) (c : Context) : Type 0 where
  pub form : c.form ≡ forms.Plain
  pub clients : c.clients ≡ n
  pub bits : c.bits ≡ b

plain_after : (clients bits : ℕ) (c : Context) → IsPlainOf clients bits c → (line : ScriptLine) → Stands c line → IsPlainOf clients bits (with_line c line)
unfolding with_line
plain_after clients bits c is (lines.Plain n m b s) stands = cc (sym stands.0 ∙ is.form)
plain_after clients bits c is (lines.Group v n m ots clms slms s) stands = cc (sym stands.0 ∙ is.form)
plain_after clients bits c is line stands = record { form = is.form; clients = is.clients; bits = is.bits }

can_say : (clients bits : ℕ) (c : Context) → IsPlainOf clients bits c → (line : ScriptLine) → Stands c line → CanSay bits line
can_say clients bits c is (lines.PlainSay i message) stands = let e = is.bits in omega (arith, stands.3.0.0)
can_say clients bits c is line stands = tt

pub all_can_say : (clients bits : ℕ) (script : Lines) (c : Context) → IsPlainOf clients bits c → IsLegal c script → AllByRecursion (λ line. CanSay bits line.1) script
all_can_say clients bits [] c is legal = tt
all_can_say clients bits (line ∷ script) c is legal =
    (can_say clients bits c is line.1 legal.1, all_can_say clients bits script (with_line c line.1) (plain_after clients bits c is line.1 legal.1) legal.2)

line_fits : (clients bits : ℕ) (c : Context) → IsPlainOf clients bits c → (line : ScriptLine) → Stands c line → All (Fits clients bits) (plain_line bits line)
line_fits clients bits c is (lines.PlainSay i message) stands =
    let e = is.clients in
    All-cons (Fits clients bits) (Say i (first_bits message bits)) [] (omega (arith, stands.1), length-map-range_with_len (bit_of_bytes message) 0 bits) (All-nil (Fits clients bits))
line_fits clients bits c is (lines.PlainSubmit i) stands = let e = is.clients in All-cons (Fits clients bits) (Submit i) [] (omega (arith, stands.1)) (All-nil (Fits clients bits))
line_fits clients bits c is (lines.Tick k) stands = All-cons (Fits clients bits) (Tick k) [] stands.1 (All-nil (Fits clients bits))
line_fits clients bits c is lines.PlainClose stands = All-cons (Fits clients bits) Close [] tt (All-nil (Fits clients bits))
line_fits clients bits c is line stands = All-nil (Fits clients bits)

lines_fit : (clients bits : ℕ) (script : Lines) (c : Context) → IsPlainOf clients bits c → IsLegal c script → All (Fits clients bits) (plain_lines bits script)
lines_fit clients bits [] c is legal = All-nil (Fits clients bits)
lines_fit clients bits (line ∷ script) c is legal =
    All-append (Fits clients bits) (plain_line bits line.1) (plain_lines bits script) (line_fits clients bits c is line.1 legal.1)
    (lines_fit clients bits script (with_line c line.1) (plain_after clients bits c is line.1 legal.1) legal.2)

plain_begins : (n m b : ℕ) (s : List ℕ) → IsPlainOf n b (with_line nothing_yet (lines.Plain n m b s))
unfolding with_line
plain_begins n m b s = record { form = refl; clients = refl; bits = refl }

begun : (first : ℕ × ScriptLine) (n m b : ℕ) (s : List ℕ) (all rest script : Lines) → all ≡ script → all ≡ first ∷ rest → first.1 ≡ lines.Plain n m b s → IsLegal nothing_yet script
    → Stands nothing_yet (lines.Plain n m b s) × IsLegal (with_line nothing_yet (lines.Plain n m b s)) rest
begun first n m b s all rest script same e is legal =
    let whole = subst (IsLegal nothing_yet) (sym same ∙ e) legal in
    subst (λ (line : ScriptLine). Stands nothing_yet line × IsLegal (with_line nothing_yet line) rest) is (whole.1, whole.2)

pub rest_can_say : (first : ℕ × ScriptLine) (n m b : ℕ) (s : List ℕ) (all rest script : Lines) → all ≡ script → all ≡ first ∷ rest → first.1 ≡ lines.Plain n m b s → IsLegal nothing_yet script
    → AllByRecursion (λ line. CanSay b line.1) rest
rest_can_say first n m b s all rest script same e is legal =
    all_can_say n b rest (with_line nothing_yet (lines.Plain n m b s)) (plain_begins n m b s) (begun first n m b s all rest script same e is legal).1

pub begun_is_script : (first : ℕ × ScriptLine) (n m b : ℕ) (s : List ℕ) (all rest script : Lines) → all ≡ script → all ≡ first ∷ rest → first.1 ≡ lines.Plain n m b s → IsLegal nothing_yet script
    → (behind : List PlainLine) → behind ≡ plain_lines b rest → IsScript (record { clients = n; servers = m; bits = b; seed = s; lines = behind })
begun_is_script first n m b s all rest script same e is legal behind read =
    let whole = begun first n m b s all rest script same e is legal in
    let stands = whole.0 in
    record {
      some_clients = stands.1.0;
      clients = stands.1.1;
      some_servers = stands.2.0;
      servers = stands.2.1;
      some_bits = stands.3.0;
      bits = stands.3.1;
      seed = omega (arith, stands.4.0.0, stands.4.0.1);
      seed_bytes = stands.4.1;
      fits = subst (All (Fits n b)) (sym read) (lines_fit n b rest (with_line nothing_yet (lines.Plain n m b s)) (plain_begins n m b s) whole.1);
    }

-- Each production leaves what it is known to leave, by computing; so what matches makes one tree.
use Rattle.std.proofs.Common.{◌≡◌, Bool, true, false, List, [], ◌∷◌, ◌++◌, Option, Some, None, refl, ap, subst}
use Rattle.std.proofs.lemmas.Bool.{false≢true}
use Rattle.vv_base.specs.declared.fault.Span.{Span}
use Rattle.vv_vlex.specs.declared.token.Token.{Token}
use Rattle.vv_grammar.specs.declared.edition.Edition.{Edition}
use Rattle.vv_grammar.specs.declared.edition.Edition.TheVariants as edition
use Rattle.vv_grammar.specs.declared.event.Event.{Event}
use Rattle.vv_grammar.specs.declared.terminal.Terminal.{Terminal}
use Rattle.vv_grammar.specs.Terminals.{terminals_of}
use Rattle.vv_grammar.specs.Trees.{Tree, leaf, make, replay}
use Rattle.vv_grammar_laws.specs.Starts.{Start, file, expression, name, aggregate}
use Rattle.vv_productions.specs.Phrases as p
use Rattle.vv_productions.specs.Phrases.{Production, Phrase, skip, keep, rule, ◌▸◌, ◌or◌, option, many}
use Rattle.vv_productions.specs.Productions.{definition}
use Rattle.vv_productions.specs.Matches.{Matches, done, skipped, kept, made, by_rule, both, left, right, left_out, put_in, no_more, one_more, phrase_for}
use Rattle.vv_productions.specs.Readings.{IsTreeOf, nowhere}
use Rattle.vv_productions.proofs.Typing.{Value, a_tree, AreValues, suit, leaves, Typed, y_skip, y_keep, y_make, y_rule, y_both, y_or, y_option, y_many, effect, Has, has-effect, typed-append, suit-append, suit-self, suit-on, suit-values, make-values}

abbrev pub leaves_these : List Value → Option (List Value) → Bool
leaves_these ks None = false
leaves_these ks (Some ls) = suit ls ks

pub left_by : (e : Edition) (q : Production) → leaves_these (leaves q) (effect (definition e q) []) ≡ true
left_by e p.design_unit = refl
left_by e p.context_item = refl
left_by e p.use_clause = refl
left_by e p.selected_name = refl
left_by e p.library_unit = refl
left_by e p.entity = refl
left_by e p.generics = refl
left_by e p.ports = refl
left_by e p.port = refl
left_by e p.architecture = refl
left_by e p.package_declaration = refl
left_by e p.package_body = refl
left_by e p.constant_interface = refl
left_by e p.common_declaration = refl
left_by e p.declaration = refl
left_by e p.process_declaration = refl
left_by e p.type_declaration = refl
left_by e p.enumeration_literal = refl
left_by e p.subtype_declaration = refl
left_by e p.constant_declaration = refl
left_by e p.component = refl
left_by e p.function_specification = refl
left_by e p.function_declaration = refl
left_by e p.function_body = refl
left_by e p.attribute = refl
left_by e p.entity_designator = refl
left_by e p.entity_class = refl
left_by e p.mark = refl
left_by e p.subtype_indication = refl
left_by e p.range = refl
left_by e p.discrete_range = refl
left_by e p.concurrent_statement = refl
left_by e p.plain_concurrent_statement = refl
left_by e p.process = refl
left_by edition.Vhdl93 p.sensitivity = refl
left_by edition.Vhdl08 p.sensitivity = refl
left_by e p.conditional_assignment = refl
left_by e p.selected_assignment = refl
left_by e p.instance = refl
left_by e p.association = refl
left_by e p.actual_part = refl
left_by e p.generate = refl
left_by e p.generate_rest = refl
left_by e p.statement = refl
left_by e p.plain_statement = refl
left_by e p.assertion = refl
left_by e p.if_statement = refl
left_by e p.case_statement = refl
left_by e p.loop = refl
left_by e p.loop_body = refl
left_by e p.choices = refl
left_by e p.choice = refl
left_by e p.expression = refl
left_by e p.relation = refl
left_by e p.shift_expression = refl
left_by e p.simple_expression = refl
left_by e p.term = refl
left_by e p.factor = refl
left_by e p.primary = refl
left_by e p.parenthesis = refl
left_by e p.aggregate = refl
left_by e p.element = refl
left_by e p.bound_element = refl
left_by e p.name = refl
left_by e p.name_part = refl
left_by e p.argument = refl

-- a definition before any values
pub record Defined (e : Edition) (q : Production) (ks : List Value) : Type 0 where
  pub values : List Value
  pub typed : Typed (definition e q) ks values
  pub suits : suit values (leaves q ++ ks) ≡ true

defined : (e : Edition) (q : Production) (ks : List Value) → Defined e q ks
defined e q ks = go (effect (definition e q) []) (has-effect (definition e q) []) (left_by e q)
  where
    go : (o : Option (List Value)) → Has (definition e q) [] o → leaves_these (leaves q) o ≡ true → Defined e q ks
    go None h k = absurd (false≢true k)
    go (Some ls) h k = record { values = ls ++ ks; typed = typed-append (definition e q) [] ls ks h; suits = suit-append ls (leaves q) ks k }

-- phrases one behind the other
pub data Row : List Phrase → List Value → List Value → Type 0 where
  r_end : (ks : List Value) → Row [] ks ks
  r_more : (a : Phrase) (K : List Phrase) (ks ls ms ns : List Value) → Typed a ks ls → suit ls ms ≡ true → Row K ms ns → Row (a ∷ K) ks ns

abbrev pub Nonempty : List Terminal → Type 0
Nonempty [] = ⊥
Nonempty (t ∷ u) = Unit {0}

abbrev pub rest_of : List Terminal → List Terminal
rest_of [] = []
rest_of (t ∷ u) = u

-- What matches before values leaves what its phrases leave.
pub leaves_values : (e : Edition) (K : List Phrase) (u : List Terminal) (es : List Event) (ks ns : List Value) → Matches e K u es → Row K ks ns
    → (ts : List Token) → u ≡ terminals_of ts → (last : Span) (V : List Tree) → AreValues ks V → AreValues ns (replay es ts last V)
leaves_values e _ _ _ _ _ done (r_end ks) ts t last V v = v
leaves_values e _ _ _ _ ns (skipped w x K u es s d) (r_more _ _ _ _ ms _ (y_skip _ ks) h r) [] t last V v = absurd (subst Nonempty t tt)
leaves_values e _ _ _ _ ns (skipped w x K u es s d) (r_more _ _ _ _ ms _ (y_skip _ ks) h r) (y ∷ ts) t last V v =
    leaves_values e K u es ms ns d r ts (ap rest_of t) y.span V (suit-values ks ms V h v)
leaves_values e _ _ _ _ ns (kept w x K u es s d) (r_more _ _ _ _ ms _ (y_keep _ ks) h r) [] t last V v = absurd (subst Nonempty t tt)
leaves_values e _ _ _ _ ns (kept w x K u es s d) (r_more _ _ _ _ ms _ (y_keep _ ks) h r) (y ∷ ts) t last V v =
    leaves_values e K u es ms ns d r ts (ap rest_of t) y.span (leaf y ∷ V) (suit-values (a_tree ∷ ks) ms (leaf y ∷ V) h (tt, v))
leaves_values e _ _ _ _ ns (made f K u es d) (r_more _ _ _ _ ms _ (y_make _ ks ls g) h r) ts t last V v =
    leaves_values e K u es ms ns d r ts t last (make f last V) (suit-values ls ms (make f last V) h (make-values f last ks ls V g v))
leaves_values e _ _ _ _ ns (by_rule q K u es d) (r_more _ _ _ _ ms _ (y_rule _ ks) h r) ts t last V v =
    let x = defined e q ks in
    leaves_values e (definition e q ∷ K) u es ks ns d (r_more (definition e q) K ks x.values ms ns x.typed (suit-on x.values (leaves q ++ ks) ms x.suits h) r) ts t last V v
leaves_values e _ _ _ _ ns (both a b K u es d) (r_more _ _ _ _ ms _ (y_both _ _ ks ls ns' x y) h r) ts t last V v =
    leaves_values e (a ∷ b ∷ K) u es ks ns d (r_more a (b ∷ K) ks ls ls ns x (suit-self ls) (r_more b K ls ns' ms ns y h r)) ts t last V v
leaves_values e _ _ _ _ ns (left a b K u es d) (r_more _ _ _ _ ms _ (y_or _ _ ks ls ls' ns' x y g k) h r) ts t last V v =
    leaves_values e (a ∷ K) u es ks ns d (r_more a K ks ls ms ns x (suit-on ls ns' ms g h) r) ts t last V v
leaves_values e _ _ _ _ ns (right a b K u es d) (r_more _ _ _ _ ms _ (y_or _ _ ks ls ls' ns' x y g k) h r) ts t last V v =
    leaves_values e (b ∷ K) u es ks ns d (r_more b K ks ls' ms ns y (suit-on ls' ns' ms k h) r) ts t last V v
leaves_values e _ _ _ _ ns (left_out a K u es d) (r_more _ _ _ _ ms _ (y_option _ ks ls ns' x g k) h r) ts t last V v =
    leaves_values e K u es ms ns d r ts t last V (suit-values ks ms V (suit-on ks ns' ms k h) v)
leaves_values e _ _ _ _ ns (put_in a K u es d) (r_more _ _ _ _ ms _ (y_option _ ks ls ns' x g k) h r) ts t last V v =
    leaves_values e (a ∷ K) u es ks ns d (r_more a K ks ls ms ns x (suit-on ls ns' ms g h) r) ts t last V v
leaves_values e _ _ _ _ ns (no_more a K u es d) (r_more _ _ _ _ ms _ (y_many _ ks ls x g) h r) ts t last V v =
    leaves_values e K u es ms ns d r ts t last V (suit-values ks ms V h v)
leaves_values e _ _ _ _ ns (one_more a K u es d) (r_more _ _ _ _ ms _ (y_many _ ks ls x g) h r) ts t last V v =
    leaves_values e (a ∷ many a ∷ K) u es ks ns d (r_more a (many a ∷ K) ks ls ks ns x g (r_more (many a) K ks ks ms ns (y_many a ks ls x g) h r)) ts t last V v

start-value : (s : Start) → leaves_these (a_tree ∷ []) (effect (phrase_for s) []) ≡ true
start-value file = refl
start-value expression = refl
start-value name = refl
start-value aggregate = refl

-- the one tree of one value
pub record OneTree (V : List Tree) : Type 0 where
  pub tree : Tree
  pub is : V ≡ tree ∷ []

one-value : (V : List Tree) → AreValues (a_tree ∷ []) V → OneTree V
one-value [] h = absurd h
one-value (t ∷ []) h = record { tree = t; is = refl }
one-value (t ∷ r ∷ V) h = absurd h.1

pub tree_made : (e : Edition) (s : Start) (ts : List Token) (es : List Event) → Matches e (phrase_for s ∷ []) (terminals_of ts) es → (t : Tree) × IsTreeOf e s ts t
tree_made e s ts es m = go (effect (phrase_for s) []) (has-effect (phrase_for s) []) (start-value s)
  where
    go : (o : Option (List Value)) → Has (phrase_for s) [] o → leaves_these (a_tree ∷ []) o ≡ true → (t : Tree) × IsTreeOf e s ts t
    go None h k = absurd (false≢true k)
    go (Some ls) h k =
        let v = leaves_values e (phrase_for s ∷ []) (terminals_of ts) es [] (a_tree ∷ []) m (r_more (phrase_for s) [] [] ls (a_tree ∷ []) (a_tree ∷ []) h k (r_end (a_tree ∷ []))) ts refl nowhere [] tt in
        let o = one-value (replay es ts nowhere []) v in
        (o.tree, record { events = es; matches = m; made = o.is })

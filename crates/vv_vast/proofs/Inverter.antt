-- The inverter's text is a text of its tree, and its flat design is that of its tree.
use Rattle.std.proofs.Common.{◌≡◌, ◌≢◌, ◌<◌, ℕ, true, false, List, [], ◌∷◌, ◌++◌, flat_map, codes, All, refl, ap, arith, lit<}
use Rattle.std.proofs.lemmas.List.Elements.{All-nil, All-cons, All-from_recursion}
use Rattle.std.proofs.lemmas.List.Kept.{AllPairs-cons}
use Rattle.std.specs.List.{list_all, HoldsAt}
use Rattle.vv_vast.proofs.Cutting.{breaks, begins_word, Cut, cut_word, cut_sign, cut_space}
use Rattle.vv_vast.proofs.Splits.{apart}
use Rattle.vv_vast.specs.Examples.{inverter_text, inverter_ports, inverter, inverter_flat}
use Rattle.vv_vast.specs.Flat.{Flat, IsDistinct, IsFlat, FlatDesign}
use Rattle.vv_vast.specs.Grammar.{spelled, names_of, VerilogText}
use Rattle.vv_vast.specs.Tokens.{is_run_byte, is_sign, run}
use Rattle.vv_vast.specs.Tree.{output, target_of, reads_of}
use Rattle.vv_vast.specs.Words.{reserved, IsIdentifier}

word : (t : List ℕ) {rest : List ℕ} {tokens : List (List ℕ)} → list_all is_run_byte t ≡ true → begins_word t ≡ true → breaks rest ≡ true → Cut rest tokens → Cut (t ++ rest) (t ∷ tokens)
word [] r w b k = cc
word (c ∷ t) r w b k = cut_word (c ∷ t) (run (omega arith) r) w b k

-- no longer sign begins with `=` before a space
equals : (c : ℕ) (xs : List ℕ) → c ≡ 32 → is_sign (61 ∷ c ∷ xs) ≡ false
equals c xs e = ap (λ d. is_sign (61 ∷ d ∷ xs)) e

inverter_cut : Cut inverter_text (spelled (inverter ∷ []))
inverter_cut =
    (word (codes "module") refl refl refl (cut_space 32 refl (word (codes "m") refl refl refl (cut_space 32 refl
    (cut_sign 40 refl refl (λ c xs ys e. refl) (word (codes "input") refl refl refl (cut_space 32 refl (word (codes "wire") refl refl refl
    (cut_space 32 refl (word (codes "a") refl refl refl (cut_sign 44 refl refl (λ c xs ys e. refl) (cut_space 32 refl
    (word (codes "output") refl refl refl (cut_space 32 refl (word (codes "wire") refl refl refl (cut_space 32 refl
    (word (codes "b") refl refl refl (cut_sign 41 refl refl (λ c xs ys e. refl) (cut_sign 59 refl refl (λ c xs ys e. refl) (cut_space 32 refl
    (word (codes "assign") refl refl refl (cut_space 32 refl (word (codes "b") refl refl refl (cut_space 32 refl
    (cut_sign 61 refl refl (λ c xs ys e. equals c xs cc) (cut_space 32 refl (cut_sign 40 refl refl (λ c xs ys e. refl) (cut_sign 126 refl refl (λ c xs ys e. refl)
    (word (codes "a") refl refl refl (cut_sign 41 refl refl (λ c xs ys e. refl) (cut_sign 59 refl refl (λ c xs ys e. refl) (cut_space 32 refl
    (word (codes "endmodule") refl refl refl (record { cut = refl }))))))))))))))))))))))))))))))))))

a_name : IsIdentifier (codes "a")
unfolding reserved
a_name = record { begins = refl; run = refl; free = refl }

b_name : IsIdentifier (codes "b")
unfolding reserved
b_name = record { begins = refl; run = refl; free = refl }

m_name : IsIdentifier (codes "m")
unfolding reserved
m_name = record { begins = refl; run = refl; free = refl }

pub inverter_is_text : VerilogText (inverter ∷ []) inverter_text
inverter_is_text = record {
  tokens = inverter_cut.cut;
  names = All-from_recursion IsIdentifier (flat_map names_of (inverter ∷ [])) (m_name, (a_name, (b_name, (b_name, (a_name, tt)))));
}

none_apart : IsDistinct []
none_apart i j d h k = absurd (omega (arith, k))

one_apart : (n : List ℕ) → IsDistinct (n ∷ [])
one_apart n = AllPairs-cons (λ a b. a ≢ b) n [] (All-nil (λ b. n ≢ b)) none_apart

ports_apart : IsDistinct (codes "a" ∷ codes "b" ∷ [])
ports_apart =
    AllPairs-cons (λ a b. a ≢ b) (codes "a") (codes "b" ∷ []) (All-cons (λ b. codes "a" ≢ b) (codes "b") [] a_is_not_b (All-nil (λ b. codes "a" ≢ b))) (one_apart (codes "b"))
  where
    a_is_not_b : codes "a" ≢ codes "b"
    a_is_not_b e = apart (codes "a") (codes "b") refl refl e

stands_flat : IsFlat inverter inverter_flat
stands_flat = record {
  objects = refl;
  distinct = ports_apart;
  known = All-from_recursion (λ i. i < 2) (1 ∷ 0 ∷ []) (lit< tt, (lit< tt, tt));
  items = refl;
  driven = All-from_recursion (λ i. HoldsAt (λ p. p.direction ≡ output) inverter_ports (target_of i)) inverter_flat.items (λ d. refl, tt);
}

pub inverter_is_flat : FlatDesign (inverter ∷ []) (codes "m") inverter_flat
inverter_is_flat = record {
  distinct = one_apart (codes "m");
  each = All-from_recursion (λ m. (own : Flat) × IsFlat m own) (inverter ∷ []) ((inverter_flat, stands_flat), tt);
  found = inverter;
  among = (0, lit< tt, refl);
  named = refl;
  stands = stands_flat;
  acyclic = record {
    rank = λ n. n;
    falls = All-from_recursion (λ i. All (λ n. n < target_of i) (reads_of i)) inverter_flat.items (All-from_recursion (λ n. n < 1) (0 ∷ []) (lit< tt, tt), tt);
  };
}

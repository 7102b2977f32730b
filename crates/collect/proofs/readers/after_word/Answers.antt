use Rattle.collect.proofs.Common.{◌≡◌, ◌≢◌, ℕ, List, ◌++◌, Bor, Decides-eqb}
use Rattle.std.proofs.lemmas.Slice.Eq.{strip_prefix_is}
use Rattle.collect.proofs.Fronts.{IfSome-of, IfNone-of}
use Rattle.collect.proofs.readers.after_word.Goals as goal

pub returns-clause-found : goal.returns-clause-found
returns-clause-found c =
    IfSome-of {X = Bor (List ℕ)} c.strip_prefix.result ((rest : List ℕ) → c.args.bytes.now ≢ c.args.word.now ++ rest) (λ x. c.args.bytes.now ≡ c.args.word.now ++ x.now)
    (strip_prefix_is Decides-eqb c.args.bytes.now c.args.word.now c.strip_prefix.result c.strip_prefix.ensures.cases)

pub returns-clause-none : goal.returns-clause-none
returns-clause-none c =
    IfNone-of {X = Bor (List ℕ)} c.strip_prefix.result ((rest : List ℕ) → c.args.bytes.now ≢ c.args.word.now ++ rest) (λ x. c.args.bytes.now ≡ c.args.word.now ++ x.now)
    (strip_prefix_is Decides-eqb c.args.bytes.now c.args.word.now c.strip_prefix.result c.strip_prefix.ensures.cases)

-- `judging::calls::begin` meets its contract: past the limit it is refused, and else no line is passed and no key has come. Assumes nothing.
use mathlib.Core.Path.{◌≡◌, refl, sym, ap, ◌∙◌}
use Prim.Native.Nat.{ℕ}
use lib.ListN.{length-replicate}
use Rattle.scan.specs.Machine.{FIRSTS}
use Rattle.judging.specs.Parts.{beginning}
use Rattle.judging.specs.declared.parts.Stand.{Stand}
use Rattle.judging.proofs.Laws.Parting.{midway_start, same_everywhere}
use Rattle.judging.proofs.Laws.Knowing.{asking_means}
use Rattle.judging.proofs.Laws.Calling.{number_none, number_one}
use Rattle.judging.proofs.calls.begin.Goals as goal

-- where it begins, what is asked is what was given
begins : {s : Stand} {x : _} → s ≡ beginning x → s ≡ beginning s.state.asking
begins e = e ∙ ap beginning (sym (ap (λ (t : Stand). t.state.asking) e))

pub returns-then-file-gt-LIMIT : goal.returns-then-file-gt-LIMIT
returns-then-file-gt-LIMIT c = record { number = sym (number_one c.args.file.now c.if-file-gt-LIMIT.true); refused = c.if-file-gt-LIMIT.true; stand = tt; going = tt }

pub survey-facts-requires : goal.survey-facts-requires
survey-facts-requires c = record { book = c.requires; flags_value = refl; file_len_bound = c.if-file-gt-LIMIT.false }

pub asking_of-asking-requires : goal.asking_of-asking-requires
asking_of-asking-requires c = c.survey-facts.ensures.declared.shape

pub returns : goal.returns
returns c =
    record {
      number = sym (number_none c.args.file.now c.if-file-gt-LIMIT.false);
      refused = tt;
      stand = begins c.beginning.ensures;
      going = record {
        limit = c.if-file-gt-LIMIT.false;
        midway = midway_start _ c.beginning.ensures (asking_means _ c.asking_of-asking.ensures c.survey-facts.ensures.facts_of c.survey-facts.ensures.declared) (λ i. same_everywhere FIRSTS i 0);
        declared = c.survey-facts.ensures.declared;
        columns = refl;
        keys = length-replicate {A = ℕ} FIRSTS 0;
      };
    }

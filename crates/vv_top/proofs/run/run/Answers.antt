use Rattle.std.proofs.Common.{rules, inl, inr}
use Rattle.vv_top.proofs.run.run.Goals as goal

-- the text is saved, and the save of the map failed
pub returns-in-Err-Failed-save-clause-saved : goal.returns-in-Err-Failed-save-clause-saved
returns-in-Err-Failed-save-clause-saved g c = inr (inr (inr (record {
  text = c.in_ok-out.out.text;
  lines = c.in_ok-out.out.map;
  translated = c.in_ok-out.ensures.translated;
  output = search rules;
  rose = search rules;
  others = search rules;
})))

-- the text is saved, and there was no memory for the map
pub returns-clause-saved : goal.returns-clause-saved
returns-clause-saved g c = inr (inl (record {
  text = c.in_ok-out.out.text;
  lines = c.in_ok-out.out.map;
  translated = c.in_ok-out.ensures.translated;
  output = search rules;
  others = search rules;
}))

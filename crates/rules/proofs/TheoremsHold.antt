-- The theorems that a function of their own carries.
use Rattle.rules.proofs.Makings.{making_says}
use Rattle.rules.proofs.Gathered.{always_stands, answers_as_page_map, keeps_pages, has_what_rules_need}
use Rattle.rules.proofs.Decided.{answers_decided}
use Rattle.rules.proofs.Answered.{every_call_answered}

pub ruleset theorems = (making_says, always_stands, answers_as_page_map, answers_decided, every_call_answered, keeps_pages, has_what_rules_need)

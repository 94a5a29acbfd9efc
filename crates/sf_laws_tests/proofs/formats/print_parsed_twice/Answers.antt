use Rattle.sf_laws_tests.proofs.formats.print_parsed_twice.Goals as goal

pub returns : goal.returns
returns c = c.one_list.ensures.print c.args.profile c.args.text.now c.in-Ok.first c.in-Ok-parse.second c.in-Ok.ensures.spelled
    c.in-Ok-parse.ensures.spelled

mod Arguments

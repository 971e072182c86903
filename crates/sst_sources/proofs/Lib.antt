mod FrontNumbers
